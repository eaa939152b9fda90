use Rattle.std.proofs.Common.{subst, rules}
use Rattle.std.specs.Prelude.{◌≢◌}
use Rattle.std.proofs.lemmas.Result.{IfErr-weaker}
use Rattle.memberlist_cipher.specs.declared.fault.CipherFault.TheVariants.{Memory}
use Rattle.memberlist_keyring.specs.Opening.{OpensStreamFirst}
use Rattle.memberlist_keyring.proofs.OneOpened.{one_opened_stream, opens_stream}
use Rattle.memberlist_wrap.specs.Wrapping.{Unwraps}
use Rattle.memberlist_transport.proofs.unwrapped_stream.opened.Goals as goal

pub returns-in-Ok-clause-err : goal.returns-in-Ok-clause-err
returns-in-Ok-clause-err c =
    let opens : OpensStreamFirst c.args.keys.now c.args.bytes.now c.deref.result.now = search rules in
    IfErr-weaker c.unwrapped.result _ _
    (λ fault lacks seen plain inner also wraps.
    lacks seen inner (subst (λ p. Unwraps c.args.limit p inner)
    (one_opened_stream c.args.keys.now c.args.bytes.now plain c.deref.result.now also opens) wraps))
    c.unwrapped.ensures.err

pub returns-in-Err : goal.returns-in-Err
returns-in-Err c =
    let other : c.in-Err.cause ≢ Memory = search rules in
    record {
      ok = tt;
      err = λ seen plain inner opens wraps. c.in-Err.ensures.lacks other plain
          (opens_stream c.args.keys.now c.args.bytes.now plain opens);
    }
