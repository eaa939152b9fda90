use Rattle.std.proofs.Common.{map}
use Rattle.memberlist_member.proofs.Picking.{Picking}
use Rattle.memberlist_member.proofs.queue.Queue.picks.Given as goal

abbrev pub invariant-loop : goal.invariant-loop
invariant-loop l =
    Picking l.overhead l.room l.most l.self.waiting.items l.last l.left l.counter l.ids.items (map (λ p. p.items) l.parts.items)
