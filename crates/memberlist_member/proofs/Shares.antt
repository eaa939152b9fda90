-- Fractions that tell logarithms apart.
use Rattle.std.proofs.Common.{◌≡◌, ◌≢◌, ℕ, zero, suc, ◌+◌, ◌*◌, ◌^◌, ◌<◌, ◌≤◌, Bool, true, false, nat_lt, refl, sym, subst, ap, ◌∙◌, arith, lit<, lit≤, ltb-true, ltb-false, mul-le-mul_right, le_of_lt, pow-suc}
use Rattle.std.proofs.Math.Nat.{one-le-pow, pow-le-pow_left, pow-le-pow_right, pow-lt-pow_left, pow-zero}
use Rattle.memberlist_member.specs.Suspicions.{IsShare}
use Rattle.memberlist_member.proofs.Logarithms.{pow_pow}
use Rattle.memberlist_member.proofs.Squaring.{above, below, fit, is_above, is_below, power, square, step, times}

-- the two exponents change places
swap : (c m k : ℕ) → (c ^ m) ^ k ≡ (c ^ k) ^ m
swap c m k =
    pow_pow c m k ∙ ap (λ i. c ^ i) (let same : k * m ≡ m * k = omega arith in same) ∙ sym (pow_pow c k m)

-- p/q is just above log(a) / log(b), and r/t just below
module _ (a b p q r t : ℕ) (some_b : 0 < b) (some_q : 0 < q) (some_t : 0 < t) (above : a ^ q < b ^ p) (below : b ^ r < a ^ t)
    (next : p * t ≡ r * q + 1) where
  -- what the fraction allows is true
  reached : (d x : ℕ) → d * p ≤ x * q → a ^ d ≤ b ^ x
  reached d x h = cases (nat_lt (b ^ x) (a ^ d)) refl where
    cases : (less : Bool) → nat_lt (b ^ x) (a ^ d) ≡ less → a ^ d ≤ b ^ x
    cases true e =
        let some : q ≢ 0 = omega (arith, some_q) in
        let lower : (b ^ x) ^ q < (a ^ d) ^ q = pow-lt-pow_left (ltb-true _ _ e) some in
        let raised : (a ^ q) ^ d ≤ (b ^ p) ^ d = pow-le-pow_left (le_of_lt above) d in
        let most : b ^ (d * p) ≤ b ^ (x * q) = pow-le-pow_right some_b h in
        absurd (omega (arith, lower, swap a d q, raised, pow_pow b p d, most, swap b x q, pow_pow b q x))
    cases false e = ltb-false _ _ e

  -- what is true the lower fraction allows too
  apart : (d x : ℕ) → 0 < d → a ^ d ≤ b ^ x → r * d < x * t
  apart d x some h = cases (nat_lt (r * d) (x * t)) refl where
    cases : (less : Bool) → nat_lt (r * d) (x * t) ≡ less → r * d < x * t
    cases true e = ltb-true _ _ e
    cases false e =
        let there : d ≢ 0 = omega (arith, some) in
        let lower : (b ^ r) ^ d < (a ^ t) ^ d = pow-lt-pow_left below there in
        let raised : (a ^ d) ^ t ≤ (b ^ x) ^ t = pow-le-pow_left h t in
        let fewer : x * t ≤ d * r = omega (arith, ltb-false _ _ e) in
        let most : b ^ (x * t) ≤ b ^ (d * r) = pow-le-pow_right some_b fewer in
        absurd (omega (arith, lower, pow_pow b r d, most, swap b x t, pow_pow b t x, raised, swap a d t))

  -- what is true the fraction allows, since none with so small a denominator lies between the two
  needed : (d x : ℕ) → d < q + t → a ^ d ≤ b ^ x → d * p ≤ x * q
  needed zero x near h = omega arith
  needed (suc n) x near h = cases (nat_lt (x * q) (suc n * p)) refl where
    cases : (less : Bool) → nat_lt (x * q) (suc n * p) ≡ less → suc n * p ≤ x * q
    cases true e =
        let d = suc n in
        let over : x * q + 1 ≤ d * p = omega (arith, ltb-true _ _ e) in
        let under : r * d + 1 ≤ x * t = omega (arith, apart d x (let some : 0 < suc n = omega arith in some) h) in
        let first = mul-le-mul_right t over in
        let second = mul-le-mul_right q under in
        let scaled = ap (λ i. suc n * i) next in
        absurd (omega (arith, first, second, scaled, near))
    cases false e = ltb-false _ _ e

-- ---- fractions whose neighbours were found by continued fractions

told : (c k p q r t : ℕ) → is_below (c + 1) (k + 1) (2 ^ 128) 60 p q ≡ true → is_above (c + 1) (k + 1) (2 ^ 128) 60 r t ≡ true
    → p * t ≡ r * q + 1 → 0 < q → 0 < t → 2 ^ 54 ≤ q + t → IsShare k c p q
told c k p q r t less more next some_q some_t far d x small =
    let a = c + 1 in
    let b = k + 1 in
    let base : 0 < b = omega arith in
    let over = below a b (2 ^ 128) base (lit< tt) 60 p q less in
    let under = above a b (2 ^ 128) base (lit< tt) 60 r t more in (
      needed a b p q r t base some_q some_t over under next d x (omega (arith, small, far)),
      reached a b p q r t base some_q some_t over under next d x,
    )

pub two_one : IsShare 2 1 6234549927241963 9881527843552324
unfolding is_below is_above power step square times fit
two_one = told 1 2 6234549927241963 9881527843552324 5750934602875680 9115015689657667 refl refl refl (lit< tt) (lit< tt) (lit≤ tt)

pub three_two : IsShare 3 2 206745572560704147 260883866295429880
unfolding is_below is_above power step square times fit
three_two = told 2 3 206745572560704147 260883866295429880 4940763921776162 6234549927241963 refl refl refl (lit< tt) (lit< tt) (lit≤ tt)

pub four_one : IsShare 4 1 30387805924728145 70558300318610924
unfolding is_below is_above power step square times fit
four_one = told 1 4 30387805924728145 70558300318610924 3449301958915901 8009031126156845 refl refl refl (lit< tt) (lit< tt) (lit≤ tt)

pub four_two : IsShare 4 2 74091334972018705 108541843848649526
unfolding is_below is_above power step square times fit
four_two = told 2 4 74091334972018705 108541843848649526 6283129142812184 9204617821470977 refl refl refl (lit< tt) (lit< tt) (lit≤ tt)

pub four_three : IsShare 4 3 30387805924728145 35279150159305462
unfolding is_below is_above power step square times fit
four_three = told 3 4 30387805924728145 35279150159305462 6898603917831802 8009031126156845 refl refl refl (lit< tt) (lit< tt) (lit≤ tt)

-- ---- and those that are exact

-- powers of one number are in the order of their exponents
pub grows : (b d x : ℕ) → 2 ≤ b → b ^ d ≤ b ^ x → d ≤ x
grows b d x two h = cases (nat_lt x d) refl where
  cases : (less : Bool) → nat_lt x d ≡ less → d ≤ x
  cases true e =
      let some : 0 < b = omega (arith, two) in
      let next : suc x ≤ d = omega (arith, ltb-true x d e) in
      let most : b ^ suc x ≤ b ^ d = pow-le-pow_right some next in
      let one = one-le-pow x b some in
      let twice = mul-le-mul_right (b ^ x) two in
      absurd (omega (arith, h, most, pow-suc b x, one, twice))
  cases false e = ltb-false x d e

pub one_power : (d : ℕ) → 1 ^ d ≡ 1
one_power zero = pow-zero 1
one_power (suc d) = pow-suc 1 d ∙ (let same : 1 ^ d * 1 ≡ 1 ^ d = omega arith in same) ∙ one_power d

-- no confirmation
pub none : (k : ℕ) → IsShare k 0 0 1
none k d x small =
    let base : 0 < k + 1 = omega arith in
    let some : 1 ≤ (k + 1) ^ x = one-le-pow x (k + 1) base in
    (λ h. omega arith, λ h. subst (λ i. i ≤ (k + 1) ^ x) (sym (one_power d)) some)

-- all of them
pub all : (k : ℕ) → 1 ≤ k → IsShare k k 1 1
all k some d x small =
    let base : 0 < k + 1 = omega arith in
    let two : 2 ≤ k + 1 = omega (arith, some) in
    (λ h. omega (arith, grows (k + 1) d x two h), λ h. pow-le-pow_right base (omega (arith, h)))

-- 4 is the square of 2
pub three_one : IsShare 3 1 1 2
three_one d x small =
    let base : 0 < 2 = omega arith in
    let two : 2 ≤ 2 = omega arith in
    let squared : 4 ^ x ≡ 2 ^ (x * 2) = pow_pow 2 2 x in (
      λ h. omega (arith, grows 2 d (x * 2) two (subst (λ i. 2 ^ d ≤ i) squared h)),
      λ h. subst (λ i. 2 ^ d ≤ i) (sym squared) (pow-le-pow_right base (omega (arith, h))),
    )
