use Rattle.std.proofs.Common.{ℕ, ◌∙◌, ap}
use Rattle.swim_c.specs.Unwrapping.{PacketUnwrapped, GivesNewMessage, LacksNew}
use Rattle.swim_c.proofs.Unwrappings.{lacked_new, packet_refused}
use Rattle.swim_c.proofs.unwrapping.unwrap_new.Goals as goal

pub returns-in-Ok : goal.returns-in-Ok
returns-in-Ok c =
    PacketUnwrapped.given c.in-Ok.message.items c.in-Ok.ensures.inside c.keep_message.ensures

pub returns-in-Err : goal.returns-in-Err
returns-in-Err c =
    packet_refused c.args.keys.now (GivesNewMessage c.args.buffer.now c.args.buffer.now
    c.refused.result.status c.refused.result.kind)
    (LacksNew c.args.buffer.now c.args.buffer.now c.refused.result.status c.refused.result.kind)
    c.args.packet.now c.in-Err.fault
    (lacked_new _ c.args.buffer.now c.refused.result
    (c.refused.ensures ∙ ap (λ (n : ℕ). record {
      status = n;
      kind = 0;
      len = 0;
    }) c.packet_status.ensures)) c.in-Err.ensures.refuses
