use Rattle.std.proofs.Common.{◌≡◌, length, subst, arith}
use Rattle.memberlist_member.specs.Queues.{CanFollow, IsBest}
use Rattle.memberlist_member.proofs.queue.Queue.next_after.Goals as goal

pub returns-clause-best : goal.returns-clause-best
returns-clause-best c =
    let waiting = c.args.self.now.waiting.items in
    let all : c.loop-index.index ≡ length waiting =
    omega (arith, c.loop-index-test.false, c.loop-index.auto.index-end, c.len-index-end.ensures) in
    subst (λ n. IsBest (CanFollow waiting c.args.last c.args.overhead c.args.room) waiting n c.loop-index.best) all
    c.loop-index.invariant.0
