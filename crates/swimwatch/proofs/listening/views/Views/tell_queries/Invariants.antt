use Rattle.std.proofs.Common.{◌≡◌}
use Rattle.swimwatch.specs.Seated.{AreAlike}
use Rattle.swimwatch.proofs.listening.views.Views.tell_queries.Given as goal

abbrev pub invariant-loop : goal.invariant-loop
invariant-loop l = AreAlike l.initial.self.seats.seats.items l.self.seats.seats.items
    × (l.self.seats.setting ≡ l.initial.self.seats.setting)
