use Rattle.std.proofs.Common.{refl, ◌∙◌}
use Rattle.swimwatch.proofs.Seats.{alike_later, alike_same}
use Rattle.swimwatch.proofs.listening.views.Views.tell_queries.Goals as goal

pub loop-init : goal.loop-init
loop-init c = (alike_same c.args.self.now.seats.seats.items, refl)

pub loop-preserved : goal.loop-preserved
loop-preserved c = (
  alike_later _ _ _ c.loop.invariant.0 c.in_ok-tell_query-in-Some.ensures.alike,
  c.in_ok-tell_query-in-Some.ensures.setting ∙ c.loop.invariant.1,
)
