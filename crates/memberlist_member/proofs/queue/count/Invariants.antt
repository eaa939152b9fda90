use Rattle.std.proofs.Common.{◌≡◌}
use Rattle.memberlist_member.proofs.Sending.{counted, part_done}
use Rattle.memberlist_member.proofs.queue.count.Given as goal

abbrev pub invariant-loop-broadcast : goal.invariant-loop-broadcast
invariant-loop-broadcast l = l.broadcast-items ≡ part_done (counted l.ids) l.broadcast-index l.fn.waiting.items
