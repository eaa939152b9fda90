use Rattle.swimwatch.proofs.Flowing.{on_ok}
use Rattle.swimwatch.proofs.Seats.{alike_later}
use Rattle.swimwatch.proofs.listening.views.Views.finish_view.Goals as goal

pub returns : goal.returns
returns c = on_ok c.print_all.result (λ h. alike_later _ _ _ c.in_ok-finish.ensures.alike h) c.print_all.ensures.alike
