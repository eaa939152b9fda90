use Rattle.std.proofs.Common.{◌≡◌, [], MatchBool, subst, rules}
use Rattle.std.specs.Prelude.{◌≢◌}
use Rattle.std.proofs.lemmas.Result.{IfOk-weaker, IfErr-weaker}
use Rattle.memberlist_cipher.specs.declared.fault.CipherFault.TheVariants.{Memory}
use Rattle.memberlist_keyring.specs.Opening.{OpensFirst}
use Rattle.memberlist_transport.specs.InTheClear.{AcceptsClear}
use Rattle.memberlist_transport.specs.Unwrapped.{IsInside as inside}
use Rattle.memberlist_transport.proofs.Unwrapping.{bare, accepts_bare, none_bare, none_opened, none_closed}
use Rattle.memberlist_transport.proofs.unwrapped.unwrap_packet.Goals as goal

pub returns-then-is_empty-clause-inside : goal.returns-then-is_empty-clause-inside
returns-then-is_empty-clause-inside c =
    let none : c.args.keys.now ≡ [] = search rules in
    IfOk-weaker c.unwrapped.result _ _
    (λ inner wraps. bare c.args.clear c.args.keys.now c.args.bytes.now none inner.items
    (accepts_bare c.args.clear c.args.keys.now none) wraps) c.unwrapped.ensures.ok

pub returns-then-is_empty-clause-refuses : goal.returns-then-is_empty-clause-refuses
returns-then-is_empty-clause-refuses c =
    let none : c.args.keys.now ≡ [] = search rules in
    IfErr-weaker c.unwrapped.result _ _
    (λ fault lacks seen. none_bare c.args.clear c.args.keys.now c.args.bytes.now none
    (lacks seen)) c.unwrapped.ensures.err

pub returns-in-Ok-clause-inside : goal.returns-in-Ok-clause-inside
returns-in-Ok-clause-inside c =
    let opens : OpensFirst c.args.keys.now c.args.bytes.now c.deref.result.now = search rules in
    IfOk-weaker c.unwrapped-in-Ok.result _ _ (λ inner wraps. inside.opened c.deref.result.now opens wraps) c.unwrapped-in-Ok.ensures.ok

pub returns-in-Ok-clause-refuses : goal.returns-in-Ok-clause-refuses
returns-in-Ok-clause-refuses c =
    let opens : OpensFirst c.args.keys.now c.args.bytes.now c.deref.result.now = search rules in
    IfErr-weaker c.unwrapped-in-Ok.result _ _
    (λ fault lacks seen. none_opened c.args.clear c.args.keys.now c.args.bytes.now c.deref.result.now
    opens (lacks seen)) c.unwrapped-in-Ok.ensures.err

pub returns-then-is_accepted : goal.returns-then-is_accepted
returns-then-is_accepted c =
    let other : c.in-Err.field-0 ≢ Memory = search rules in
    let accepted : AcceptsClear c.args.clear c.args.keys.now =
    subst (λ b. MatchBool b (AcceptsClear c.args.clear c.args.keys.now)
    (¬ AcceptsClear c.args.clear c.args.keys.now)) c.if-is_accepted.true c.is_accepted.ensures in
    record {
      inside = IfOk-weaker c.unwrapped-then-is_accepted.result _ _
          (λ inner wraps. inside.clear accepted
          (c.in-Err.ensures.lacks other) wraps) c.unwrapped-then-is_accepted.ensures.ok;
      refuses = IfErr-weaker c.unwrapped-then-is_accepted.result _ _
          (λ fault lacks seen. none_closed c.args.clear c.args.keys.now c.args.bytes.now
          (c.in-Err.ensures.lacks other) (λ inner also. lacks seen inner))
          c.unwrapped-then-is_accepted.ensures.err;
    }

pub returns-else-is_accepted : goal.returns-else-is_accepted
returns-else-is_accepted c =
    let other : c.in-Err.field-0 ≢ Memory = search rules in
    let refuses : ¬ AcceptsClear c.args.clear c.args.keys.now =
    subst (λ b. MatchBool b (AcceptsClear c.args.clear c.args.keys.now)
    (¬ AcceptsClear c.args.clear c.args.keys.now)) c.if-is_accepted.false c.is_accepted.ensures in
    record {
      inside = tt;
      refuses = λ seen. none_closed c.args.clear c.args.keys.now c.args.bytes.now
          (c.in-Err.ensures.lacks other) (λ inner also wraps. refuses also);
    }
