-- The first of those that were looked at.
use Rattle.memberlist_member.proofs.Waking.{IsFirstSoFar}
use Rattle.memberlist_member.proofs.suspicions.Suspicions.wakes_at.Given as goal

abbrev pub invariant-loop-suspect : goal.invariant-loop-suspect
invariant-loop-suspect l = IsFirstSoFar l.view l.suspect-items l.suspect-index l.first
