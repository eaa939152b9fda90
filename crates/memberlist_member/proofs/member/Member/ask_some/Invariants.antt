use Rattle.memberlist_member.specs.Showing.{GoesOn, KeepsLines}
use Rattle.memberlist_member.specs.Staying.{Adds, BeginsNoProbe, StaysButProbe}
use Rattle.memberlist_member.proofs.member.Member.ask_some.Given as goal

abbrev pub invariant-loop-peer : goal.invariant-loop-peer
invariant-loop-peer g l = record {
  adds : Adds l.peer-index 0 0 l.initial.self l.self;
  stays : StaysButProbe l.initial.self l.self;
  goes : GoesOn l.initial.self l.self;
  probes : BeginsNoProbe l.initial.self l.self;
  lines : KeepsLines l.initial.self l.self;
}
