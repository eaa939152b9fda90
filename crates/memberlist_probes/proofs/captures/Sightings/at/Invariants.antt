use Rattle.std.proofs.Common.{take}
use Rattle.memberlist_probes.specs.Captured.{WasNotSeen}
use Rattle.memberlist_probes.proofs.captures.Sightings.at.Given as goal

abbrev pub invariant-loop-seen : goal.invariant-loop-seen
invariant-loop-seen l = WasNotSeen l.captures l.host (take l.seen-index l.seen-items)
