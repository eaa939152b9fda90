use Rattle.memberlist_member.specs.Showing.{GoesOn, KeepsLines}
use Rattle.memberlist_member.specs.Staying.{Adds, Stays}
use Rattle.memberlist_member.proofs.member.Member.close_overdue.Given as goal

abbrev pub invariant-loop : goal.invariant-loop
invariant-loop l = record {
  adds : Adds 0 0 0 l.initial.self l.self;
  stays : Stays l.initial.self l.self;
  goes : GoesOn l.initial.self l.self;
  lines : KeepsLines l.initial.self l.self;
}
