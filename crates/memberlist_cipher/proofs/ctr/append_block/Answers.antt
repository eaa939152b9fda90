use Rattle.std.proofs.Common.{ℕ, List, ◌++◌, take, ap, ◌∙◌}
use Rattle.memberlist_cipher.proofs.Rounds.{plus_is}
use Rattle.memberlist_cipher.proofs.ctr.append_block.Goals as goal

pub returns-clause-items : goal.returns-clause-items
returns-clause-items c =
    c.append.ensures.items ∙ ap (λ (x : List ℕ). c.args.to.now.items ++ x) (plus_is (take 16 c.args.bytes.now) c.args.mask)
