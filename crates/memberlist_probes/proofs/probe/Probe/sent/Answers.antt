use Rattle.std.proofs.Common.{None, subst}
use Rattle.std.specs.Net.Socket.{socket_ip}
use Rattle.memberlist_probes.specs.Captured.{IsSeenAt}
use Rattle.memberlist_probes.proofs.probe.Probe.sent.Goals as goal

-- no capture there has it, so the first sighting counts
pub returns-in-None : goal.returns-in-None
returns-in-None c =
    let captures = c.args.captures.now in
    let pings = c.args.self.now.pinged in (
      None,
      subst (λ at. IsSeenAt captures (socket_ip c.args.self.now.from) pings at) c.in-None.is
          (subst (λ host. IsSeenAt captures host pings c.at.result) c.ip.ensures c.at.ensures),
      c.time.ensures.seen,
    )
