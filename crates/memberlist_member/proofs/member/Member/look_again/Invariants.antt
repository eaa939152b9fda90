use Rattle.memberlist_member.specs.Showing.{GoesByLines, KeepsLines}
use Rattle.memberlist_member.specs.Staying.{Adds, BeginsNoProbe, StaysButProbe}
use Rattle.memberlist_member.proofs.member.Member.look_again.Given as goal

abbrev pub invariant-loop : goal.invariant-loop
invariant-loop g l = record {
  adds : Adds 0 0 l.counter l.initial.self l.self;
  stays : StaysButProbe l.initial.self l.self;
  goes : GoesByLines l.initial.self l.self;
  probes : BeginsNoProbe l.initial.self l.self;
  lines : KeepsLines l.initial.self l.self;
}
