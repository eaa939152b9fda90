use Rattle.memberlist_member.specs.Staying.{Adds, Stays}
use Rattle.memberlist_member.proofs.member.Member.recall.Given as goal

abbrev pub invariant-loop-claim : goal.invariant-loop-claim
invariant-loop-claim g l = Adds 0 0 0 l.initial.self l.self × Stays l.initial.self l.self
