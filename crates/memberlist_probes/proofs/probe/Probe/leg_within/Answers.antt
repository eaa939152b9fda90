use Rattle.std.proofs.Common.{None, false, refl}
use Rattle.std.specs.Net.Socket.{socket_ip}
use Rattle.memberlist_probes.proofs.Completing.{shows_within}
use Rattle.memberlist_probes.proofs.probe.Probe.leg_within.Goals as goal

pub returns : goal.returns
returns c = λ world ahead clocks complete refuses.
    shows_within c.args.captures.now c.args.self.now.pinged c.args.self.now.acked
    (socket_ip c.args.self.now.from) (socket_ip c.args.self.now.to) world ahead clocks
    (record {
      timeout = c.args.timeout;
      at_prober = record { ping = None; ack = None };
      at_target = record { ping = None; ack = None };
      between = c.passage_between-between.result;
      is_prober_complete = false;
      is_target_complete = false;
      refusal = c.refusal-refusal.result;
    }) refl refl refl refl refl refl complete refuses c.passage_between-between.ensures
