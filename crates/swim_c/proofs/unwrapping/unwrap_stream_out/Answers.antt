use Rattle.std.proofs.Common.{ℕ, ◌<◌, length, ◌∙◌, ap, subst, rules}
use Rattle.swim_c.specs.Unwrapping.{StreamUnwrapped, GivesMessage, Lacks}
use Rattle.swim_c.proofs.Unwrappings.{lacked, stream_refused}
use Rattle.swim_c.proofs.unwrapping.unwrap_stream_out.Goals as goal

pub returns-in-Ok : goal.returns-in-Ok
returns-in-Ok c =
    let few : length c.args.label.now < 256 = search rules in
    StreamUnwrapped.given c.in-Ok.message.items few c.in-Ok.ensures.inside
    (subst (GivesMessage c.args.out.now c.message_out.new.out c.message_out.result.status
    c.message_out.result.kind c.message_out.result.len) c.deref.ensures.value c.message_out.ensures)

pub returns-in-Err : goal.returns-in-Err
returns-in-Err c =
    let few : length c.args.label.now < 256 = search rules in
    stream_refused c.args.keys.now (GivesMessage c.args.out.now c.args.out.now c.refused-in-Err.result.status
    c.refused-in-Err.result.kind c.refused-in-Err.result.len)
    (Lacks c.args.out.now c.args.out.now c.refused-in-Err.result.status c.refused-in-Err.result.kind
    c.refused-in-Err.result.len) c.args.label.now c.args.bytes.now c.in-Err.fault few
    (lacked _ c.args.out.now c.refused-in-Err.result
    (c.refused-in-Err.ensures ∙ ap (λ (n : ℕ). record {
      status = n;
      kind = 0;
      len = 0;
    }) c.stream_status.ensures)) c.in-Err.ensures.refuses
