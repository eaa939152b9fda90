use Rattle.std.proofs.Common.{rules}
use Rattle.std.proofs.lemmas.Result.{IfOk-weaker, IfErr-weaker}
use Rattle.std.specs.Prelude.{◌≢◌}
use Rattle.memberlist_wrap.specs.Wrapping.{Unwraps}
use Rattle.memberlist_wrap.specs.declared.fault.WrapFault.TheVariants.{Memory}
use Rattle.memberlist_transport.proofs.Packets.{none_inside}
use Rattle.memberlist_transport.proofs.packet.decompressed_message.Goals as goal

pub returns-in-Ok-clause-holds : goal.returns-in-Ok-clause-holds
returns-in-Ok-clause-holds c =
    let unwraps : Unwraps 1048576 c.args.bytes.now c.deref.result.now = search rules in
    IfOk-weaker c.message_of.result _ _ (λ message h. (c.deref.result.now, unwraps, h)) c.message_of.ensures.holds

pub returns-in-Ok-clause-reason : goal.returns-in-Ok-clause-reason
returns-in-Ok-clause-reason c =
    let unwraps : Unwraps 1048576 c.args.bytes.now c.deref.result.now = search rules in
    IfErr-weaker c.message_of.result _ _
    (λ fault h seen. none_inside c.args.bytes.now c.deref.result.now fault unwraps
    (h seen)) c.message_of.ensures.reason

pub returns-in-Err-clause-reason : goal.returns-in-Err-clause-reason
returns-in-Err-clause-reason c = λ seen.
    let other : c.in-Err.fault ≢ Memory = search rules in
    (c.in-Err.ensures.reason other, c.in-Err.ensures.limits other)
