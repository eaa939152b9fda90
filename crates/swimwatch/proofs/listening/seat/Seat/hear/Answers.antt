use Rattle.std.proofs.Math.Path.{subst}
use Rattle.swimwatch.specs.Connected.{past_of}
use Rattle.swimwatch.specs.Shown.{HearsRecord}
use Rattle.swimwatch.specs.Viewed.{HearsCaptures}
use Rattle.swimwatch.proofs.Flowing.{on_ok}
use Rattle.swimwatch.proofs.listening.seat.Seat.hear.Goals as goal

pub returns : goal.returns
returns c first records has =
    let old = past_of has.0 has.1 has.2 c.args.self.now.traffic.connections.flows c.args.self.now.watch.listener.view in
    on_ok c.record.result (λ h.
    let new = past_of h.0 h.1 h.2 c.record.new.self.connections.flows c.record.new.watch.listener.view in (
      h.0,
      h.1,
      h.2,
      HearsCaptures.one_more records old c.args.record c.args.bytes.now new has.3
          (subst (λ s. HearsRecord s c.args.record c.args.bytes.now old new) c.filter.ensures h.3),
      h.4,
      h.5,
    ))
    (c.record.ensures has.0 has.1 has.2 has.4 has.5)
