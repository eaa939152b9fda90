use Rattle.std.proofs.Common.{◌≡◌, ◌∷◌, true, IsTrue, refl, ap, ◌∙◌, rules, arith, inl, inr}
use Rattle.std.proofs.lemmas.Result.{err_from_is_err_and}
use Rattle.memberlist_wrap.specs.Reasons.FailsHere.{deep, broken}
use Rattle.memberlist_wrap.specs.Wrapping.Wrapper.{compression, checksum, label}
use Rattle.memberlist_wrap.proofs.Layers.{off_label}
use Rattle.memberlist_wrap.proofs.outer.take_off.Goals as goal

is_true : IsTrue true
is_true = search rules

pub returns-then-depth-eq0-clause-err : goal.returns-then-depth-eq0-clause-err
returns-then-depth-eq0-clause-err c limit =
    let rest = c.in-Some.rest.now in
    elim (c.if-not-is_kind.ensures.0 is_true) [
      | inl nine ↦ deep compression rest (c.in-Some.ensures.cases.0 ∙ ap (λ k. k ∷ rest) nine) c.if-depth-eq0.true refl
      | inr other ↦ elim other [
        | inl twelve ↦ deep checksum rest (c.in-Some.ensures.cases.0 ∙ ap (λ k. k ∷ rest) twelve) c.if-depth-eq0.true refl
        | inr last ↦ deep label rest (c.in-Some.ensures.cases.0 ∙ ap (λ k. k ∷ rest) last) c.if-depth-eq0.true refl
      ]
    ]

pub returns-in_err-checked-in-12-clause-err : goal.returns-in_err-checked-in-12-clause-err
returns-in_err-checked-in-12-clause-err c =
    let rest = c.in-Some.rest.now in
    let kind_is : c.in-Some.first.now ≡ 12 = c.in-12.is in
    let begins : c.args.bytes.now ≡ 12 ∷ rest = c.in-Some.ensures.cases.0 ∙ ap (λ k. k ∷ rest) kind_is in
    let exit = err_from_is_err_and c.from_residual.result c.from_residual.ensures.1 in
    rw (exit.1, exit.2) (λ limit. broken checksum rest begins (omega (arith, c.if-depth-eq0.false)) c.in_err-checked-in-12.ensures.err)

pub returns-in_ok-checked-in-12-clause-ok : goal.returns-in_ok-checked-in-12-clause-ok
returns-in_ok-checked-in-12-clause-ok c =
    let rest = c.in-Some.rest.now in
    let kind_is : c.in-Some.first.now ≡ 12 = c.in-12.is in
    let begins : c.args.bytes.now ≡ 12 ∷ rest = c.in-Some.ensures.cases.0 ∙ ap (λ k. k ∷ rest) kind_is in
    let text = c.in_ok-checked-in-12.ensures.ok in
    (omega (arith, c.if-depth-eq0.false), (12 ∷ text.digits, begins ∙ ap (λ r. 12 ∷ r) text.text), (checksum, rest, begins, λ limit. text))

pub returns-in_err-inner-in_default-kind-clause-err : goal.returns-in_err-inner-in_default-kind-clause-err
returns-in_err-inner-in_default-kind-clause-err c =
    let rest = c.in-Some.rest.now in
    let which = c.if-not-is_kind.ensures.0 is_true in
    let kind_is : c.in-Some.first.now ≡ 244 = omega (arith, which) in
    let begins : c.args.bytes.now ≡ 244 ∷ rest = c.in-Some.ensures.cases.0 ∙ ap (λ k. k ∷ rest) kind_is in
    let exit = err_from_is_err_and c.from_residual-in_err-inner-in_default-kind.result
    c.from_residual-in_err-inner-in_default-kind.ensures.1 in
    let cause = rw begins at c.in_err-inner-in_default-kind.ensures.refuses in
    rw exit.1 (λ limit. broken label rest begins (omega (arith, c.if-depth-eq0.false)) (_, cause, exit.2))

pub returns-in_ok-inner-in_default-kind-clause-ok : goal.returns-in_ok-inner-in_default-kind-clause-ok
returns-in_ok-inner-in_default-kind-clause-ok c =
    let rest = c.in-Some.rest.now in
    let which = c.if-not-is_kind.ensures.0 is_true in
    let kind_is : c.in-Some.first.now ≡ 244 = omega (arith, which) in
    let begins : c.args.bytes.now ≡ 244 ∷ rest = c.in-Some.ensures.cases.0 ∙ ap (λ k. k ∷ rest) kind_is in
    let text = off_label c.args.bytes.now rest _ c.in_ok-inner-in_default-kind.inner.now begins
    c.in_ok-inner-in_default-kind.ensures.label in
    (omega (arith, c.if-depth-eq0.false), text.0, (label, rest, begins, λ limit. text.1))
