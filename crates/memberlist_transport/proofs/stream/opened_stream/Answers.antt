use Rattle.std.proofs.Common.{inl, inr, refl, rules}
use Rattle.std.proofs.lemmas.Result.{IfOk-weaker, IfErr-weaker}
use Rattle.std.specs.Prelude.{◌≢◌}
use Rattle.memberlist_cipher.specs.declared.fault.CipherFault.TheVariants.{Memory}
use Rattle.memberlist_keyring.specs.Opening.{OpensStreamFirst}
use Rattle.memberlist_transport.proofs.stream.opened_stream.Goals as goal

pub returns-in-Ok-clause-ok : goal.returns-in-Ok-clause-ok
returns-in-Ok-clause-ok c =
    let opens : OpensStreamFirst c.args.keys.now c.args.bytes.now c.deref.result.now = search rules in
    IfOk-weaker c.clear_stream.result _ _ (λ stream h. (c.deref.result.now, opens, h)) c.clear_stream.ensures.ok

pub returns-in-Ok-clause-err : goal.returns-in-Ok-clause-err
returns-in-Ok-clause-err c =
    let opens : OpensStreamFirst c.args.keys.now c.args.bytes.now c.deref.result.now = search rules in
    IfErr-weaker c.clear_stream.result _ _ (λ fault h seen. inr (c.deref.result.now, opens, h seen)) c.clear_stream.ensures.err

pub returns-in-Err-clause-err : goal.returns-in-Err-clause-err
returns-in-Err-clause-err c = λ seen.
    let other : c.in-Err.cause ≢ Memory = search rules in
    inl (c.in-Err.cause, c.in-Err.ensures.lacks other, c.in-Err.ensures.reason other, refl)
