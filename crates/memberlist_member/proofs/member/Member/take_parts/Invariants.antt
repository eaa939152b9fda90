use Rattle.std.proofs.Common.{List, take}
use Rattle.std.specs.List.{All}
use Rattle.memberlist_view.specs.declared.heard.Said.{Said}
use Rattle.memberlist_member.specs.Showing.{GoesBy, KeepsLines, Tells}
use Rattle.memberlist_member.specs.Steps.{IsHeededAck, IsOutdoneIn}
use Rattle.memberlist_member.specs.Staying.{Adds, BeginsNoProbe, StaysButProbe}
use Rattle.memberlist_member.proofs.member.Member.take_parts.Given as goal

abbrev pub invariant-loop-part : goal.invariant-loop-part
invariant-loop-part g l = record {
  adds : Adds l.part-index 0 0 l.initial.self l.self;
  goes : (told : List Said) → All (λ part. Tells told part.now) l.parts → GoesBy told l.initial.self l.self;
  stays : StaysButProbe l.initial.self l.self;
  probes : BeginsNoProbe l.initial.self l.self;
  lines : KeepsLines l.initial.self l.self;
  outdone : All (λ part. IsOutdoneIn l.self.own part.now) (take l.part-index l.parts);
  answered : All (λ part. IsHeededAck l.self part.now) (take l.part-index l.parts);
}
