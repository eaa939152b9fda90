use Rattle.std.proofs.Common.{◌≡◌}
use Rattle.memberlist_member.specs.Showing.{GoesOn, KeepsLines}
use Rattle.memberlist_member.specs.Staying.{Adds, BeginsNoProbe, StaysItself}
use Rattle.memberlist_member.proofs.member.Member.join.Given as goal

abbrev pub invariant-loop-seed : goal.invariant-loop-seed
invariant-loop-seed g l = record {
  adds : Adds 0 l.seed-index 0 l.initial.self l.self;
  stays : StaysItself l.initial.self l.self;
  seeds : l.self.seeds.items ≡ l.seeds;
  goes : GoesOn l.initial.self l.self;
  probes : BeginsNoProbe l.initial.self l.self;
  lines : KeepsLines l.initial.self l.self;
}
