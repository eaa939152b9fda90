use Rattle.std.proofs.Common.{◌≡◌}
use Rattle.swimwatch.proofs.listening.watch.Watch.recent_events.Given as goal

abbrev pub invariant-loop-group : goal.invariant-loop-group
invariant-loop-group l = l.self.listener ≡ l.initial.self.listener
