use Rattle.std.proofs.Common.{◌≤◌}
use Rattle.memberlist_member.proofs.member.sending.room_behind.Given as goal

abbrev pub invariant-loop-part : goal.invariant-loop-part
invariant-loop-part l = l.left ≤ l.room
