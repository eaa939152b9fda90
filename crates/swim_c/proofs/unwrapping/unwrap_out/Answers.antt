use Rattle.std.proofs.Common.{ℕ, ◌∙◌, ap, subst}
use Rattle.swim_c.specs.Unwrapping.{PacketUnwrapped, GivesMessage, Lacks}
use Rattle.swim_c.proofs.Unwrappings.{lacked, packet_refused}
use Rattle.swim_c.proofs.unwrapping.unwrap_out.Goals as goal

pub returns-in-Ok : goal.returns-in-Ok
returns-in-Ok c =
    PacketUnwrapped.given c.in-Ok.message.items c.in-Ok.ensures.inside
    (subst (GivesMessage c.args.out.now c.message_out.new.out c.message_out.result.status
    c.message_out.result.kind c.message_out.result.len) c.deref.ensures.value c.message_out.ensures)

pub returns-in-Err : goal.returns-in-Err
returns-in-Err c =
    packet_refused c.args.keys.now (GivesMessage c.args.out.now c.args.out.now c.refused.result.status
    c.refused.result.kind c.refused.result.len)
    (Lacks c.args.out.now c.args.out.now c.refused.result.status c.refused.result.kind
    c.refused.result.len) c.args.packet.now c.in-Err.fault
    (lacked _ c.args.out.now c.refused.result
    (c.refused.ensures ∙ ap (λ (n : ℕ). record {
      status = n;
      kind = 0;
      len = 0;
    }) c.packet_status.ensures)) c.in-Err.ensures.refuses
