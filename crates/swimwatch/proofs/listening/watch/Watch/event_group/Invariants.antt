use Rattle.std.proofs.Common.{◌≡◌}
use Rattle.swimwatch.proofs.listening.watch.Watch.event_group.Given as goal

abbrev pub invariant-loop-grouped : goal.invariant-loop-grouped
invariant-loop-grouped l = l.self.listener ≡ l.initial.self.listener
