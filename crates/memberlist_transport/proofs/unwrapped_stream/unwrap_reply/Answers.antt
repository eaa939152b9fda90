use Rattle.std.proofs.Common.{rules}
use Rattle.std.proofs.lemmas.Result.{IfOk-weaker}
use Rattle.memberlist_transport.specs.Reply.{IsReadAs}
use Rattle.memberlist_transport.proofs.Replies.{begun, bare}
use Rattle.memberlist_transport.proofs.UnwrappedStreams.{none_replied}
use Rattle.memberlist_transport.proofs.unwrapped_stream.unwrap_reply.Goals.{then-begins_as_label-via-then-begins_as_label}
use Rattle.memberlist_transport.proofs.unwrapped_stream.unwrap_reply.Goals.{then-begins_as_label-via-else-begins_as_label+then-is_empty}
use Rattle.memberlist_transport.proofs.unwrapped_stream.unwrap_reply.Goals as goal

pub returns-then-begins_as_label-clause-inside : goal.returns-then-begins_as_label-clause-inside
returns-then-begins_as_label-clause-inside c =
    let read : IsReadAs c.args.label.now c.args.bytes.now c.args.bytes.now = elim c.then-begins_as_label.branch [
      | then-begins_as_label-via-then-begins_as_label w ↦ begun c.args.label.now c.args.bytes.now (search rules)
      | then-begins_as_label-via-else-begins_as_label+then-is_empty w ↦ bare c.args.label.now c.args.bytes.now (search rules) (search rules)
    ] in
    IfOk-weaker c.unwrap_stream.result _ _ (λ inner h. (c.args.bytes.now, read, h)) c.unwrap_stream.ensures.inside

pub returns-then-begins_as_label-clause-refuses : goal.returns-then-begins_as_label-clause-refuses
returns-then-begins_as_label-clause-refuses c =
    let read : IsReadAs c.args.label.now c.args.bytes.now c.args.bytes.now = elim c.then-begins_as_label.branch [
      | then-begins_as_label-via-then-begins_as_label w ↦ begun c.args.label.now c.args.bytes.now (search rules)
      | then-begins_as_label-via-else-begins_as_label+then-is_empty w ↦ bare c.args.label.now c.args.bytes.now (search rules) (search rules)
    ] in
    none_replied c.args.limit c.args.clear c.args.keys.now c.args.label.now c.args.bytes.now c.args.bytes.now
    c.unwrap_stream.result read c.unwrap_stream.ensures.refuses

pub returns-in-Ok-clause-refuses : goal.returns-in-Ok-clause-refuses
returns-in-Ok-clause-refuses c =
    let read : IsReadAs c.args.label.now c.args.bytes.now c.deref.result.now = search rules in
    none_replied c.args.limit c.args.clear c.args.keys.now c.args.label.now c.args.bytes.now
    c.deref.result.now c.unwrap_stream-in-Ok.result read c.unwrap_stream-in-Ok.ensures.refuses
