use Rattle.memberlist_member.specs.Showing.{GoesOn, KeepsLines}
use Rattle.memberlist_member.specs.Staying.{Adds, Stays}
use Rattle.memberlist_member.proofs.member.Member.end_relays.Given as goal

abbrev pub invariant-loop : goal.invariant-loop
invariant-loop g l = record {
  adds : Adds l.counter 0 0 l.initial.self l.self;
  stays : Stays l.initial.self l.self;
  goes : GoesOn l.initial.self l.self;
  lines : KeepsLines l.initial.self l.self;
}
