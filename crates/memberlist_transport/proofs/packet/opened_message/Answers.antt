use Rattle.std.proofs.Common.{inl, inr, refl, rules}
use Rattle.std.proofs.lemmas.Result.{IfOk-weaker, IfErr-weaker}
use Rattle.std.specs.Prelude.{◌≢◌}
use Rattle.memberlist_cipher.specs.declared.fault.CipherFault.TheVariants.{Memory}
use Rattle.memberlist_keyring.specs.Opening.{OpensFirst}
use Rattle.memberlist_transport.proofs.packet.opened_message.Goals as goal

pub returns-in-Ok-clause-holds : goal.returns-in-Ok-clause-holds
returns-in-Ok-clause-holds c =
    let opens : OpensFirst c.args.keys.now c.args.bytes.now c.deref.result.now = search rules in
    IfOk-weaker c.clear_message.result _ _ (λ message h. (c.deref.result.now, opens, h)) c.clear_message.ensures.holds

pub returns-in-Ok-clause-reason : goal.returns-in-Ok-clause-reason
returns-in-Ok-clause-reason c =
    let opens : OpensFirst c.args.keys.now c.args.bytes.now c.deref.result.now = search rules in
    IfErr-weaker c.clear_message.result _ _ (λ fault h seen. inr (c.deref.result.now, opens, h seen)) c.clear_message.ensures.reason

pub returns-in-Err-clause-reason : goal.returns-in-Err-clause-reason
returns-in-Err-clause-reason c = λ seen.
    let other : c.in-Err.field-0 ≢ Memory = search rules in
    inl (c.in-Err.ensures.lacks other, refl)
