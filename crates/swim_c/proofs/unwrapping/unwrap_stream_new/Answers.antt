use Rattle.std.proofs.Common.{ℕ, ◌<◌, length, ◌∙◌, ap, rules}
use Rattle.swim_c.specs.Unwrapping.{StreamUnwrapped, GivesNewMessage, LacksNew}
use Rattle.swim_c.proofs.Unwrappings.{lacked_new, stream_refused}
use Rattle.swim_c.proofs.unwrapping.unwrap_stream_new.Goals as goal

pub returns-in-Ok : goal.returns-in-Ok
returns-in-Ok c =
    let few : length c.args.label.now < 256 = search rules in
    StreamUnwrapped.given c.in-Ok.message.items few c.in-Ok.ensures.inside c.keep_message.ensures

pub returns-in-Err : goal.returns-in-Err
returns-in-Err c =
    let few : length c.args.label.now < 256 = search rules in
    stream_refused c.args.keys.now (GivesNewMessage c.args.buffer.now c.args.buffer.now
    c.refused-in-Err.result.status c.refused-in-Err.result.kind)
    (LacksNew c.args.buffer.now c.args.buffer.now c.refused-in-Err.result.status
    c.refused-in-Err.result.kind) c.args.label.now c.args.bytes.now c.in-Err.fault few
    (lacked_new _ c.args.buffer.now c.refused-in-Err.result
    (c.refused-in-Err.ensures ∙ ap (λ (n : ℕ). record {
      status = n;
      kind = 0;
      len = 0;
    }) c.stream_status.ensures)) c.in-Err.ensures.refuses
