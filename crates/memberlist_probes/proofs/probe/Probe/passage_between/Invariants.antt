use Rattle.memberlist_probes.specs.Captured.{IsPassage}
use Rattle.memberlist_probes.proofs.probe.Probe.passage_between.Given as goal

abbrev pub invariant-loop-seen : goal.invariant-loop-seen
invariant-loop-seen l = IsPassage l.self.pinged l.self.acked l.found
