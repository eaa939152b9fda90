use Rattle.std.proofs.Common.{◌≡◌, ◌⊎◌, [], inl, inr, rules}
use Rattle.std.specs.Prelude.{◌≢◌}
use Rattle.std.proofs.lemmas.Result.{IfOk-weaker, IfErr-weaker}
use Rattle.memberlist_transport.specs.Packet.{IsUnclear, IsUnclearResult}
use Rattle.memberlist_transport.proofs.Packets.{kept, refused, opened, closed, unclear_bytes}
use Rattle.memberlist_transport.proofs.packet.message_of_packet.Goals.{then-is_empty-via-then-is_empty}
use Rattle.memberlist_transport.proofs.packet.message_of_packet.Goals.{then-is_empty-via-else-is_empty+then-not-is_unclear}
use Rattle.memberlist_transport.proofs.packet.message_of_packet.Goals as goal

pub returns-then-is_empty-clause-holds : goal.returns-then-is_empty-clause-holds
returns-then-is_empty-clause-holds c =
    kept c.args.clear c.args.keys.now c.args.bytes.now c.clear_message-plain.result c.if_accepted.result c.is_accepted.result
    c.is_accepted.ensures c.clear_message-plain.ensures.holds c.if_accepted.ensures.ok

pub returns-then-is_empty-clause-reason : goal.returns-then-is_empty-clause-reason
returns-then-is_empty-clause-reason c =
    let clear : (c.args.keys.now ≡ []) ⊎ (¬ IsUnclearResult c.clear_message-plain.result) = elim c.then-is_empty.branch [
      | then-is_empty-via-then-is_empty w ↦ inl (search rules)
      | then-is_empty-via-else-is_empty+then-not-is_unclear w ↦ inr (search rules)
    ] in
    refused c.args.clear c.args.keys.now c.args.bytes.now c.clear_message-plain.result clear c.if_accepted.result c.is_accepted.result
    c.is_accepted.ensures c.clear_message-plain.ensures.holds c.clear_message-plain.ensures.reason c.if_accepted.ensures.err

pub returns-clause-holds : goal.returns-clause-holds
returns-clause-holds c =
    let unclear : IsUnclearResult c.clear_message-plain.result = search rules in
    let bytes : IsUnclear c.args.bytes.now = unclear_bytes c.args.bytes.now c.clear_message-plain.result
    c.clear_message-plain.ensures.reason unclear in
    IfOk-weaker c.opened_message.result _ _
    (λ message h. opened c.args.clear c.args.keys.now c.args.bytes.now message bytes h)
    c.opened_message.ensures.holds

pub returns-clause-reason : goal.returns-clause-reason
returns-clause-reason c =
    let unclear : IsUnclearResult c.clear_message-plain.result = search rules in
    let some : c.args.keys.now ≢ [] = search rules in
    let bytes : IsUnclear c.args.bytes.now = unclear_bytes c.args.bytes.now c.clear_message-plain.result
    c.clear_message-plain.ensures.reason unclear in
    IfErr-weaker c.opened_message.result _ _
    (λ fault h seen. closed c.args.clear c.args.keys.now c.args.bytes.now fault bytes some
    (h seen)) c.opened_message.ensures.reason
