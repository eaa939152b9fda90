use Rattle.std.proofs.Common.{◌≡◌}
use Rattle.swimwatch.proofs.listening.watch.Watch.departures.Given as goal

abbrev pub invariant-loop-name : goal.invariant-loop-name
invariant-loop-name l = l.self.listener ≡ l.initial.self.listener
