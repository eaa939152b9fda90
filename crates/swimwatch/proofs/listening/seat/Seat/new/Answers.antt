use Rattle.std.proofs.Common.{◌≡◌, [], sym}
use Rattle.std.proofs.Math.Path.{subst}
use Rattle.capture.specs.Captured.{AreFlowsOf}
use Rattle.swimwatch.specs.Connected.{AreRead}
use Rattle.swimwatch.specs.Viewed.{choice_in, first_view}
use Rattle.swimwatch.proofs.Seats.{captures_begin}
use Rattle.swimwatch.proofs.listening.seat.Seat.new.Goals as goal

pub returns : goal.returns
returns c =
    let s = choice_in c.args.setting in
    let first = first_view c.args.setting in
    let view = c.in_ok-watch.watch.listener.view in
    let same : view ≡ first = c.in_ok-watch.ensures in (
      [],
      [],
      [],
      captures_begin s first c.new-2.result.connections.flows view c.new-2.ensures.flows same,
      (
        subst (AreFlowsOf []) (sym c.new-2.ensures.flows) (λ ends. tt),
        subst (λ p. AreRead [] c.new-2.result.connections.flows p) (sym c.new-2.ensures.progress) (λ ends. tt),
      ),
      c.new-2.ensures.recent,
    )
