use Rattle.std.proofs.Common.{rules}
use Rattle.std.proofs.lemmas.Result.{IfOk-weaker, IfErr-weaker}
use Rattle.memberlist_wrap.specs.Wrapping.{Unwraps}
use Rattle.memberlist_wrap.proofs.Unwrapping.{no_message}
use Rattle.memberlist_transport.proofs.Packets.{none_inside}
use Rattle.memberlist_transport.proofs.packet.clear_message.Goals as goal

pub returns-in-Ok-Some-clause-holds : goal.returns-in-Ok-Some-clause-holds
returns-in-Ok-Some-clause-holds c =
    let unwraps : Unwraps 1048576 c.args.bytes.now c.in-Ok-Some.inner.now = search rules in
    IfOk-weaker c.message_of.result _ _ (λ message h. (c.in-Ok-Some.inner.now, unwraps, h)) c.message_of.ensures.holds

pub returns-in-Ok-Some-clause-reason : goal.returns-in-Ok-Some-clause-reason
returns-in-Ok-Some-clause-reason c =
    let unwraps : Unwraps 1048576 c.args.bytes.now c.in-Ok-Some.inner.now = search rules in
    IfErr-weaker c.message_of.result _ _
    (λ fault h seen. none_inside c.args.bytes.now c.in-Ok-Some.inner.now fault unwraps
    (h seen)) c.message_of.ensures.reason

pub returns-in-Err-clause-reason : goal.returns-in-Err-clause-reason
returns-in-Err-clause-reason c = λ seen.
    (c.in-Err.ensures.reason, no_message 4 1048576 c.in-Err.fault c.args.bytes.now c.in-Err.ensures.reason)
