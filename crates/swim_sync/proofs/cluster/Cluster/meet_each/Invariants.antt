use Rattle.std.proofs.Common.{◌≡◌, take}
use Rattle.swim_sync.specs.Cluster.{Ran}
use Rattle.swim_sync.specs.Levels.{meet_each}
use Rattle.swim_sync.proofs.cluster.Cluster.meet_each.Given as goal

abbrev pub invariant-loop-met : goal.invariant-loop-met
invariant-loop-met l = Ran l.initial.self l.self (take l.met (meet_each l.count)) × (l.met ≡ 0 → l.self ≡ l.initial.self)
