use Rattle.std.proofs.Common.{◌<◌, IfSome, length}
use Rattle.memberlist_member.specs.Queues.{CanFollow, IsBest}
use Rattle.memberlist_member.proofs.queue.Queue.next_after.Given as goal

abbrev pub invariant-loop-index : goal.invariant-loop-index
invariant-loop-index l = IsBest (CanFollow l.self.waiting.items l.last l.overhead l.room) l.self.waiting.items l.index l.best
    × IfSome l.best (λ found. found < length l.self.waiting.items)
