use Rattle.std.proofs.Common.{◌≡◌, ◌⊎◌, [], inl, inr, rules}
use Rattle.std.proofs.lemmas.Result.{IfOk-weaker}
use Rattle.memberlist_transport.specs.Stream.{BeginsAsSealed, IsSealed, IsStreamIn as streams}
use Rattle.memberlist_transport.proofs.Streams.{kept, untried, tried}
use Rattle.memberlist_transport.proofs.stream.stream_behind.Goals.{then-is_empty-via-then-is_empty}
use Rattle.memberlist_transport.proofs.stream.stream_behind.Goals.{then-is_empty-via-else-is_empty+then-not-is_sealed}
use Rattle.memberlist_transport.proofs.stream.stream_behind.Goals as goal

pub returns-then-is_empty-clause-unwraps : goal.returns-then-is_empty-clause-unwraps
returns-then-is_empty-clause-unwraps c =
    kept c.args.limit (λ v. v.items) c.args.clear c.args.keys.now c.args.bytes.now c.args.message.items
    c.stream_of.result c.if_accepted.result c.is_accepted.result
    c.is_accepted.ensures c.requires c.stream_of.ensures.ok c.if_accepted.ensures.ok

pub returns-then-is_empty-clause-reason : goal.returns-then-is_empty-clause-reason
returns-then-is_empty-clause-reason c =
    let unclosed : (c.args.keys.now ≡ []) ⊎ (¬ BeginsAsSealed c.args.message.items) = elim c.then-is_empty.branch [
      | then-is_empty-via-then-is_empty w ↦ inl (search rules)
      | then-is_empty-via-else-is_empty+then-not-is_sealed w ↦ inr (search rules)
    ] in
    untried c.args.limit (λ v. v.items) c.args.clear c.args.keys.now c.args.bytes.now c.args.message.items
    c.stream_of.result c.if_accepted.result c.is_accepted.result
    c.is_accepted.ensures c.requires c.stream_of.ensures.ok unclosed c.stream_of.ensures.err c.if_accepted.ensures.err

pub returns-clause-unwraps : goal.returns-clause-unwraps
returns-clause-unwraps c =
    let begins : BeginsAsSealed c.args.message.items = search rules in
    let sealed : IsSealed c.args.limit c.args.bytes.now = (c.args.message.items, c.requires, begins) in
    IfOk-weaker c.opened_stream.result _ _ (λ stream h. streams.opened h.0 sealed h.1 h.2) c.opened_stream.ensures.ok

pub returns-clause-reason : goal.returns-clause-reason
returns-clause-reason c =
    let begins : BeginsAsSealed c.args.message.items = search rules in
    let sealed : IsSealed c.args.limit c.args.bytes.now = (c.args.message.items, c.requires, begins) in
    tried c.args.limit c.args.clear c.args.keys.now c.args.bytes.now c.opened_stream.result sealed c.opened_stream.ensures.err
