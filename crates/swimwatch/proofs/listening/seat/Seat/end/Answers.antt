use Rattle.std.proofs.Common.{refl}
use Rattle.std.proofs.Math.Path.{subst}
use Rattle.swimwatch.specs.Connected.{MovesOn, past_of}
use Rattle.swimwatch.proofs.Flowing.{both_ok, on_ok}
use Rattle.swimwatch.proofs.listening.seat.Seat.end.Goals as goal

pub returns : goal.returns
returns c first records has =
    let last = past_of has.0 has.1 has.2 c.args.self.now.traffic.connections.flows c.args.self.now.watch.listener.view in
    let end = past_of has.0 has.1 has.2 c.finish.new.self.connections.flows c.finish.new.watch.listener.view in
    on_ok c.finish.result (λ h. (
      last,
      end,
      has.3,
      subst (λ s. MovesOn s.clear s.keys last end) c.filter.ensures (h.0 has.0 has.1 has.2 has.4).0,
      h.1,
      refl,
    )) (both_ok _ _ c.finish.result c.finish.ensures.hears c.finish.ensures.all)
