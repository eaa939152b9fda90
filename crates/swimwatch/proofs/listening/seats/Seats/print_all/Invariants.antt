use Rattle.std.proofs.Common.{◌≡◌}
use Rattle.swimwatch.specs.Seated.{AreAlike}
use Rattle.swimwatch.proofs.listening.seats.Seats.print_all.Given as goal

abbrev pub invariant-loop-view : goal.invariant-loop-view
invariant-loop-view l = AreAlike l.initial.self.seats.items l.self.seats.items × (l.self.setting ≡ l.initial.self.setting)
