use Rattle.std.proofs.Common.{refl, ◌∙◌}
use Rattle.swimwatch.proofs.Seats.{alike_later, alike_same}
use Rattle.swimwatch.proofs.listening.seats.Seats.print_all.Goals as goal

pub loop-view-init : goal.loop-view-init
loop-view-init c = (alike_same c.args.self.now.seats.items, refl)

pub loop-view-preserved : goal.loop-view-preserved
loop-view-preserved c = (
  alike_later _ _ _ c.loop-view.invariant.0 c.in_ok-print.ensures.alike,
  c.in_ok-print.ensures.setting ∙ c.loop-view.invariant.1,
)
