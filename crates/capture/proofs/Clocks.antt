-- Options of an interface, one after the other.
use Rattle.std.proofs.Common.{◌≡◌, ◌≢◌, ℕ, zero, suc, ◌+◌, ◌-◌, ◌*◌, ◌/◌, ◌^◌, ◌<◌, ◌≤◌, true, false, ltb, eqb, List}
use Rattle.std.proofs.Common.{length, drop, Some, None, refl, sym, ap, ◌∙◌, arith}
use Rattle.std.proofs.lemmas.Bool.{lt-ltb, le-ltb, ne_eqb}
use Rattle.std.proofs.lemmas.List.{length-drop}
use Rattle.std.proofs.Math.Nat.{div-div-eq-div-mul, pow-suc}
use Rattle.std.proofs.Math.Numerals.{add-one}
use Rattle.capture.specs.declared.clock.Clock.{Clock}
use Rattle.capture.specs.declared.order.Order.{Order}
use Rattle.capture.specs.Clock.{with_options, with_option, option_code, option_len, option_value, moved, nanos_of}

-- too few bytes for an option end them
pub options-end : (n : ℕ) (order : Order) (options : List ℕ) (clock : Clock) → length options < n → length options < 4
    → with_options n order options clock ≡ Some clock
unfolding with_options
options-end zero order options clock some short = absurd (omega arith)
options-end (suc n) order options clock some short = let e : ltb (length options) 4 ≡ true = lt-ltb _ _ short in rw e refl

-- an option of code 0 ends them
pub options-stop : (n : ℕ) (order : Order) (options : List ℕ) (clock : Clock) → length options < n → 4 ≤ length options
    → option_code order options ≡ 0 → with_options n order options clock ≡ Some clock
unfolding with_options
options-stop zero order options clock some long none = absurd (omega arith)
options-stop (suc n) order options clock some long none =
    let e : ltb (length options) 4 ≡ false = le-ltb _ _ long in rw (e, none) refl

-- an option does not fit
pub options-cut : (n : ℕ) (order : Order) (options : List ℕ) (clock : Clock) → length options < n → 4 ≤ length options
    → option_code order options ≢ 0 → length options < option_len order options → with_options n order options clock ≡ None
unfolding with_options
options-cut zero order options clock some long code cut = absurd (omega arith)
options-cut (suc n) order options clock some long code cut =
    let e : ltb (length options) 4 ≡ false = le-ltb _ _ long in
    let f : eqb (option_code order options) 0 ≡ false = ne_eqb _ _ code in
    let h : ltb (length options) (option_len order options) ≡ true = lt-ltb _ _ cut in
    rw (e, f, h) refl

-- an option, and those after it
pub options-more : (n : ℕ) (order : Order) (options : List ℕ) (clock : Clock) → length options < n → 4 ≤ length options
    → option_code order options ≢ 0 → option_len order options ≤ length options
    → (m : ℕ) × (length (drop (option_len order options) options) < m)
    × (with_options n order options clock ≡ with_options m order (drop (option_len order options) options)
    (with_option order (option_code order options) (option_value order options) clock))
unfolding with_options
options-more zero order options clock some long code fits = absurd (omega arith)
options-more (suc n) order options clock some long code fits =
    let e : ltb (length options) 4 ≡ false = le-ltb _ _ long in
    let f : eqb (option_code order options) 0 ≡ false = ne_eqb _ _ code in
    let h : ltb (length options) (option_len order options) ≡ false = le-ltb _ _ fits in
    (n, omega (arith, length-drop (option_len order options) options), rw (e, f, h) refl)

-- ---- the time at a count

-- an offset that is not negative
pub moved-later : (offset nanos : ℕ) → offset < 2 ^ 63 → moved offset nanos ≡ nanos + offset * 1000000000
moved-later offset nanos small = let e : ltb offset (2 ^ 63) ≡ true = lt-ltb _ _ small in rw e refl

-- a negative offset
pub moved-earlier : (offset nanos : ℕ) → 2 ^ 63 ≤ offset → moved offset nanos ≡ nanos - (2 ^ 64 - offset) * 1000000000
moved-earlier offset nanos great = let e : ltb offset (2 ^ 63) ≡ false = le-ltb _ _ great in rw e refl

-- a resolution in powers of ten
pub nanos-ten : (resolution count : ℕ) → resolution < 128 → nanos_of resolution count ≡ count * 1000000000 / 10 ^ resolution
unfolding nanos_of
nanos-ten resolution count small = let e : ltb resolution 128 ≡ true = lt-ltb _ _ small in rw e refl

-- a resolution in powers of two
pub nanos-two : (resolution count : ℕ) → 128 ≤ resolution → nanos_of resolution count ≡ count * 1000000000 / 2 ^ (resolution - 128)
unfolding nanos_of
nanos-two resolution count great = let e : ltb resolution 128 ≡ false = le-ltb _ _ great in rw e refl

-- one more division by ten
pub tenth : (m k : ℕ) → m / 10 ^ k / 10 ≡ m / 10 ^ (k + 1)
tenth m k = div-div-eq-div-mul m (10 ^ k) 10 ∙ ap (λ d. m / d) (sym (pow-suc 10 k) ∙ ap (λ e. 10 ^ e) (sym (add-one k)))
