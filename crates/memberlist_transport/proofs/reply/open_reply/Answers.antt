use Rattle.std.proofs.Common.{rules}
use Rattle.std.proofs.lemmas.Result.{IfOk-weaker}
use Rattle.memberlist_transport.specs.Reply.{IsReadAs}
use Rattle.memberlist_transport.proofs.Replies.{begun, bare, refuses, reason}
use Rattle.memberlist_transport.proofs.reply.open_reply.Goals.{then-begins_as_label-via-then-begins_as_label}
use Rattle.memberlist_transport.proofs.reply.open_reply.Goals.{then-begins_as_label-via-else-begins_as_label+then-is_empty}
use Rattle.memberlist_transport.proofs.reply.open_reply.Goals as goal

pub returns-then-begins_as_label-clause-unwraps : goal.returns-then-begins_as_label-clause-unwraps
returns-then-begins_as_label-clause-unwraps c =
    let read : IsReadAs c.args.label.now c.args.bytes.now c.args.bytes.now = elim c.then-begins_as_label.branch [
      | then-begins_as_label-via-then-begins_as_label w ↦ begun c.args.label.now c.args.bytes.now (search rules)
      | then-begins_as_label-via-else-begins_as_label+then-is_empty w ↦ bare c.args.label.now c.args.bytes.now (search rules) (search rules)
    ] in
    IfOk-weaker c.open_stream.result _ _ (λ stream h. (c.args.bytes.now, read, h)) c.open_stream.ensures.unwraps

pub returns-then-begins_as_label-clause-refuses : goal.returns-then-begins_as_label-clause-refuses
returns-then-begins_as_label-clause-refuses c =
    let read : IsReadAs c.args.label.now c.args.bytes.now c.args.bytes.now = elim c.then-begins_as_label.branch [
      | then-begins_as_label-via-then-begins_as_label w ↦ begun c.args.label.now c.args.bytes.now (search rules)
      | then-begins_as_label-via-else-begins_as_label+then-is_empty w ↦ bare c.args.label.now c.args.bytes.now (search rules) (search rules)
    ] in
    refuses c.args.limit c.args.clear c.args.keys.now c.args.label.now c.args.bytes.now c.args.bytes.now
    c.open_stream.result read c.open_stream.ensures.refuses

pub returns-then-begins_as_label-clause-reason : goal.returns-then-begins_as_label-clause-reason
returns-then-begins_as_label-clause-reason c =
    let read : IsReadAs c.args.label.now c.args.bytes.now c.args.bytes.now = elim c.then-begins_as_label.branch [
      | then-begins_as_label-via-then-begins_as_label w ↦ begun c.args.label.now c.args.bytes.now (search rules)
      | then-begins_as_label-via-else-begins_as_label+then-is_empty w ↦ bare c.args.label.now c.args.bytes.now (search rules) (search rules)
    ] in
    reason c.args.limit c.args.clear c.args.keys.now c.args.label.now c.args.bytes.now c.args.bytes.now
    c.open_stream.result read c.open_stream.ensures.reason

pub returns-in-Ok-clause-refuses : goal.returns-in-Ok-clause-refuses
returns-in-Ok-clause-refuses c =
    let read : IsReadAs c.args.label.now c.args.bytes.now c.deref.result.now = search rules in
    refuses c.args.limit c.args.clear c.args.keys.now c.args.label.now c.args.bytes.now c.deref.result.now
    c.open_stream-in-Ok.result read c.open_stream-in-Ok.ensures.refuses

pub returns-in-Ok-clause-reason : goal.returns-in-Ok-clause-reason
returns-in-Ok-clause-reason c =
    let read : IsReadAs c.args.label.now c.args.bytes.now c.deref.result.now = search rules in
    reason c.args.limit c.args.clear c.args.keys.now c.args.label.now c.args.bytes.now c.deref.result.now
    c.open_stream-in-Ok.result read c.open_stream-in-Ok.ensures.reason
