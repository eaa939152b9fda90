use Rattle.std.proofs.Common.{◌≡◌, ◌≢◌, ℕ, List, ◌≤◌, ◌<◌, ◌+◌, ◌-◌, ◌*◌, ◌/◌, suc, length, take, drop, refl, sym, ap}
use Rattle.std.proofs.Common.{ap₂, subst, ◌∙◌, arith}
use Rattle.std.proofs.lemmas.List.{take_rest, length-drop}
use Rattle.capture.specs.declared.clock.Clock.{Clock}
use Rattle.capture.specs.Clock.{option_code, option_len, option_value, value_len, with_option, with_options}
use Rattle.capture.proofs.Clocks.{options-end, options-stop, options-cut, options-more}
use Rattle.capture.proofs.clock.clock_of.Goals as goal

pub loop-rest-init : goal.loop-rest-init
loop-rest-init c = record { same = (suc (length c.args.options.now), omega arith, refl) }

pub returns-then-code-eq0 : goal.returns-then-code-eq0
returns-then-code-eq0 c =
    let inv = c.loop-rest.invariant.same in
    let none : option_code c.args.order c.loop-rest.rest.now ≡ 0 = sym c.u16_at-code.ensures ∙ c.if-code-eq0.true in
    sym (options-stop inv.0 c.args.order c.loop-rest.rest.now c.loop-rest.clock inv.1 (omega arith) none) ∙ inv.2

pub returns-then-rest-whole : goal.returns-then-rest-whole
returns-then-rest-whole c =
    let inv = c.loop-rest.invariant.same in
    let some : option_code c.args.order c.loop-rest.rest.now ≢ 0 = λ none. c.if-code-eq0.false (c.u16_at-code.ensures ∙ none) in
    let size : c.from-size.result ≡ value_len c.args.order c.loop-rest.rest.now = c.from-size.ensures ∙ c.u16_at-claimed.ensures in
    let cut : length c.loop-rest.rest.now < option_len c.args.order c.loop-rest.rest.now = omega arith in
    sym (options-cut inv.0 c.args.order c.loop-rest.rest.now c.loop-rest.clock inv.1 (omega arith) some cut) ∙ inv.2

pub loop-rest-preserved : goal.loop-rest-preserved
loop-rest-preserved c =
    let inv = c.loop-rest.invariant.same in
    let some : option_code c.args.order c.loop-rest.rest.now ≢ 0 = λ none. c.if-code-eq0.false (c.u16_at-code.ensures ∙ none) in
    let size : c.from-size.result ≡ value_len c.args.order c.loop-rest.rest.now = c.from-size.ensures ∙ c.u16_at-claimed.ensures in
    let whole : 4 + (c.from-size.result + 3) / 4 * 4 ≡ option_len c.args.order c.loop-rest.rest.now = ap
    (λ (n : ℕ). 4 + (n + 3) / 4 * 4) size in
    let fits : option_len c.args.order c.loop-rest.rest.now ≤ length c.loop-rest.rest.now = omega arith in
    let more = options-more inv.0 c.args.order c.loop-rest.rest.now c.loop-rest.clock inv.1 (omega arith) some fits in
    let tail : take (length c.loop-rest.rest.now - (4 + (c.from-size.result + 3) / 4 * 4))
    (drop (4 + (c.from-size.result + 3) / 4 * 4) c.loop-rest.rest.now)
    ≡ drop (option_len c.args.order c.loop-rest.rest.now) c.loop-rest.rest.now =
    take_rest c.loop-rest.rest.now (4 + (c.from-size.result + 3) / 4 * 4) ∙ ap (λ (n : ℕ). drop n c.loop-rest.rest.now) whole in
    let long : 4 + c.from-size.result - 4 ≡ value_len c.args.order c.loop-rest.rest.now = omega arith in
    let clock : c.with-clock.result ≡ with_option c.args.order (option_code c.args.order c.loop-rest.rest.now)
    (option_value c.args.order c.loop-rest.rest.now) c.loop-rest.clock =
    c.with-clock.ensures
    ∙ ap₂ (λ (code n : ℕ). with_option c.args.order code
    (take n (drop 4 c.loop-rest.rest.now)) c.loop-rest.clock) c.u16_at-code.ensures long in
    record {
      same = (
        more.0,
        subst (λ (l : List ℕ). length l < more.0) (sym tail) more.1,
        ap₂ (λ (l : List ℕ) (k : Clock). with_options more.0 c.args.order l k) tail clock ∙ sym more.2 ∙ inv.2,
      );
    }

pub loop-rest-smaller : goal.loop-rest-smaller
loop-rest-smaller c =
    let tail : take (length c.loop-rest.rest.now - (4 + (c.from-size.result + 3) / 4 * 4))
    (drop (4 + (c.from-size.result + 3) / 4 * 4) c.loop-rest.rest.now)
    ≡ drop (4 + (c.from-size.result + 3) / 4 * 4) c.loop-rest.rest.now =
    take_rest c.loop-rest.rest.now (4 + (c.from-size.result + 3) / 4 * 4) in
    let less : length (drop (4 + (c.from-size.result + 3) / 4 * 4) c.loop-rest.rest.now) < length c.loop-rest.rest.now =
    omega (arith, length-drop (4 + (c.from-size.result + 3) / 4 * 4) c.loop-rest.rest.now) in
    subst (λ (l : List ℕ). length l < length c.loop-rest.rest.now) (sym tail) less

pub returns : goal.returns
returns c =
    let inv = c.loop-rest.invariant.same in
    sym (options-end inv.0 c.args.order c.loop-rest.rest.now c.loop-rest.clock inv.1 (omega arith)) ∙ inv.2
