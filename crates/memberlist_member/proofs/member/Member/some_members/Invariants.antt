use Rattle.std.proofs.Common.{◌≤◌, length}
use Rattle.memberlist_member.proofs.member.Member.some_members.Given as goal

abbrev pub invariant-loop : goal.invariant-loop
invariant-loop g l = length l.chosen.items ≤ l.count
