-- The time of none before is over.
use Rattle.std.proofs.Common.{ℕ, ◌<◌, get_or}
use Rattle.memberlist_member.specs.Suspects.{IsLater}
use Rattle.memberlist_member.specs.declared.suspicions.Suspect.{Suspect}
use Rattle.memberlist_member.proofs.suspicions.Suspicions.first_due.Given as goal

abbrev pub invariant-loop-suspect : goal.invariant-loop-suspect
invariant-loop-suspect l = (k : ℕ) (d : Suspect) → k < l.suspect-index → IsLater l.view l.now (get_or l.suspect-items k d)
