use Rattle.swimwatch.specs.Seated.{at_least_one}
use Rattle.swimwatch.specs.Viewed.{choice_in, first_view}
use Rattle.swimwatch.proofs.Flowing.{on_ok}
use Rattle.swimwatch.proofs.Seats.{ended_alike}
use Rattle.swimwatch.proofs.listening.views.Views.finish.Goals as goal

pub returns : goal.returns
returns c = record {
  ended = λ heard each. on_ok c.show_end.result
      (λ h. ended_alike (choice_in c.args.self.now.seats.setting) (first_view c.args.self.now.seats.setting) (at_least_one heard)
      c.end.new.self.seats.items c.show_end.new.self.seats.seats.items h (c.in_ok-end.ensures heard each))
      c.show_end.ensures;
}
