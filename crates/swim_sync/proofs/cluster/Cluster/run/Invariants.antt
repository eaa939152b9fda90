use Rattle.std.proofs.Common.{take}
use Rattle.swim_sync.specs.Cluster.{Ran}
use Rattle.swim_sync.proofs.cluster.Cluster.run.Given as goal

abbrev pub invariant-loop-done : goal.invariant-loop-done
invariant-loop-done l = Ran l.initial.self l.self (take l.done l.events)
