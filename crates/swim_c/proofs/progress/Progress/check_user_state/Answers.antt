use Rattle.std.proofs.Common.{◌<◌, ◌≤◌, ℕ, List, length, subst}
use Rattle.swim_c.proofs.Pieces.{user_missing, whole_there}
use Rattle.swim_c.proofs.progress.Progress.check_user_state.Goals as goal

pub returns-then-unread-self-clause-lacks : goal.returns-then-unread-self-clause-lacks
returns-then-unread-self-clause-lacks c =
    user_missing c.args.bytes.now c.args.self.now
    (subst (λ (b : List ℕ). length b < c.args.self.now.user_len) c.unread.ensures.unread
    c.if-unread-self.true) c.requires.header c.requires.left

pub returns-clause-whole : goal.returns-clause-whole
returns-clause-whole c =
    whole_there c.args.bytes.now c.args.self.now
    (subst (λ (b : List ℕ). c.args.self.now.user_len ≤ length b) c.unread.ensures.unread
    c.if-unread-self.false) c.requires.header c.requires.left
