use Rattle.std.proofs.Common.{MatchBool, subst}
use Rattle.std.proofs.lemmas.Bool.{MatchBool-at_true}
use Rattle.std.specs.Net.Socket.{socket_ip}
use Rattle.memberlist_probes.specs.Captured.{IsSeenAt, IsFollowed, IsAwaited}
use Rattle.memberlist_probes.proofs.Completing.{shows_between}
use Rattle.memberlist_probes.proofs.probe.Probe.leg_between.Goals as goal

pub returns-clause-has : goal.returns-clause-has
returns-clause-has c =
    let captures = c.args.captures.now in
    let pings = c.args.self.now.pinged in
    let acks = c.args.self.now.acked in
    let ping = c.passage-at_prober.result.ping in
    record {
      ping_at_prober = subst (λ h. IsSeenAt captures h pings ping) c.ip-prober.ensures c.passage-at_prober.ensures.ping;
      ack_at_prober = subst (λ h. IsSeenAt captures h acks c.passage-at_prober.result.ack)
          c.ip-prober.ensures c.passage-at_prober.ensures.ack;
      ping_at_target = subst (λ h. IsSeenAt captures h pings c.passage-at_target.result.ping)
          c.ip-target.ensures c.passage-at_target.ensures.ping;
      ack_at_target = subst (λ h. IsSeenAt captures h acks c.passage-at_target.result.ack)
          c.ip-target.ensures c.passage-at_target.ensures.ack;
      on_the_way = c.passage_between-between.ensures;
      followed = subst (λ h. MatchBool c.is_followed-is_prober_complete.result (IsFollowed captures h ping)
          (IsFollowed captures h ping → ⊥)) c.ip-prober.ensures c.is_followed-is_prober_complete.ensures;
      awaited = subst (λ h. MatchBool c.is_awaited-is_target_complete.result (IsAwaited captures h pings)
          (IsAwaited captures h pings → ⊥)) c.ip-target.ensures c.is_awaited-is_target_complete.ensures;
    }

pub returns-clause-shows : goal.returns-clause-shows
returns-clause-shows c = λ world ahead clocks complete refuses.
    let has = returns-clause-has c in
    shows_between c.args.captures.now c.args.self.now.pinged c.args.self.now.acked
    (socket_ip c.args.self.now.from) (socket_ip c.args.self.now.to) world ahead clocks
    (record {
      timeout = c.args.timeout;
      at_prober = c.passage-at_prober.result;
      at_target = c.passage-at_target.result;
      between = c.passage_between-between.result;
      is_prober_complete = c.is_followed-is_prober_complete.result;
      is_target_complete = c.is_awaited-is_target_complete.result;
      refusal = c.refusal-refusal.result;
    }) has.ping_at_prober has.ack_at_prober has.ping_at_target has.ack_at_target
    (λ is. MatchBool-at_true _ _ is has.followed)
    (λ is. MatchBool-at_true _ _ is has.awaited) complete refuses has.on_the_way
