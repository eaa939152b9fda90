-- Whether a^q is above or below b^p, told by squaring with so many digits as s has.
use Rattle.std.proofs.Common.{◌≡◌, ℕ, zero, suc, ◌+◌, ◌*◌, ◌/◌, ◌%◌, ◌^◌, ◌<◌, ◌≤◌, Bool, true, false, ◌&&◌, nat_eq, nat_lt, if◌then◌else◌, subst, ap, ◌∙◌, arith, pow-add, ltb-true}
use Rattle.std.proofs.lemmas.Bool.{eqb-true}
use Rattle.std.proofs.Math.Nat.{le_of_mul-le-mul_right, lt_of_mul-lt-mul_right, mul-le-mul, mul-le-mul_left, mul-le-mul_right, mul-lt-mul_of_pos_right, one-le-pow, pow-suc, pow-zero}
use Rattle.memberlist_member.proofs.Thousandths.{both}

-- (m, e) stands for m * b^e, a bound of a power of a, times s
module _ (a b s : ℕ) where
  abbrev IsOver : ℕ → ℕ × ℕ → Type 0
  IsOver n x = a ^ n * s ≤ x.0 * b ^ x.1

  abbrev IsUnder : ℕ → ℕ × ℕ → Type 0
  IsUnder n x = x.0 * b ^ x.1 ≤ a ^ n * s

  -- quotients are r more than rounded down
  module _ (r : ℕ) where
    unfoldable pub square : ℕ × ℕ → ℕ × ℕ
    square (m, e) = (m * m / s + r, e + e)

    unfoldable pub times : ℕ → ℕ × ℕ → ℕ × ℕ
    times d (m, e) = (a ^ d * m, e)

    unfoldable pub fit : ℕ × ℕ → ℕ × ℕ
    fit (m, e) = if nat_lt m (b * s) then (m, e) else (m / b + r, e + 1)

    unfoldable pub step : ℕ → ℕ × ℕ → ℕ × ℕ
    step d x = fit (times d (fit (square x)))

    -- for the n-th power, where n is below 2^f
    unfoldable pub power : ℕ → ℕ → ℕ × ℕ
    power zero n = (s, 0)
    power (suc f) n = step (n % 2) (power f (n / 2))

  module _ (some_b : 0 < b) (some_s : 0 < s) where
    over_square : (n : ℕ) (x : ℕ × ℕ) → IsOver n x → IsOver (n + n) (square 1 x)
    unfolding square
    over_square n (m, e) h =
        let both : a ^ n * s * (a ^ n * s) ≤ m * b ^ e * (m * b ^ e) = mul-le-mul h h in
        let up : m * m ≤ (m * m / s + 1) * s = omega (arith, some_s) in
        let more = mul-le-mul_right (b ^ e * b ^ e) up in
        let left = pow-add a n n in
        let right = pow-add b e e in
        rw (left, right) (le_of_mul-le-mul_right (omega (arith, both, more)) some_s)

    under_square : (n : ℕ) (x : ℕ × ℕ) → IsUnder n x → IsUnder (n + n) (square 0 x)
    unfolding square
    under_square n (m, e) h =
        let both : m * b ^ e * (m * b ^ e) ≤ a ^ n * s * (a ^ n * s) = mul-le-mul h h in
        let down : (m * m / s + 0) * s ≤ m * m = omega (arith, some_s) in
        let less = mul-le-mul_right (b ^ e * b ^ e) down in
        let left = pow-add a n n in
        let right = pow-add b e e in
        rw (left, right) (le_of_mul-le-mul_right (omega (arith, both, less)) some_s)

    over_times : (n d : ℕ) (x : ℕ × ℕ) → IsOver n x → IsOver (n + d) (times 1 d x)
    unfolding times
    over_times n d (m, e) h =
        let whole = mul-le-mul_left (a ^ d) h in
        rw (pow-add a n d) (omega (arith, whole))

    under_times : (n d : ℕ) (x : ℕ × ℕ) → IsUnder n x → IsUnder (n + d) (times 0 d x)
    unfolding times
    under_times n d (m, e) h =
        let whole = mul-le-mul_left (a ^ d) h in
        rw (pow-add a n d) (omega (arith, whole))

    over_fit : (n : ℕ) (x : ℕ × ℕ) → IsOver n x → IsOver n (fit 1 x)
    unfolding fit
    over_fit n (m, e) h = cases (nat_lt m (b * s)) where
      cases : (t : Bool) → IsOver n (if t then (m, e) else (m / b + 1, e + 1))
      cases true = h
      cases false =
          let up : m ≤ (m / b + 1) * b = omega (arith, some_b) in
          let more = mul-le-mul_right (b ^ e) up in
          let next : b ^ (e + 1) ≡ b ^ e * b = ap (λ i. b ^ i) (let same : e + 1 ≡ suc e = omega arith in same) ∙ pow-suc b e in
          rw next (omega (arith, h, more))

    under_fit : (n : ℕ) (x : ℕ × ℕ) → IsUnder n x → IsUnder n (fit 0 x)
    unfolding fit
    under_fit n (m, e) h = cases (nat_lt m (b * s)) where
      cases : (t : Bool) → IsUnder n (if t then (m, e) else (m / b + 0, e + 1))
      cases true = h
      cases false =
          let down : (m / b + 0) * b ≤ m = omega (arith, some_b) in
          let less = mul-le-mul_right (b ^ e) down in
          let next : b ^ (e + 1) ≡ b ^ e * b = ap (λ i. b ^ i) (let same : e + 1 ≡ suc e = omega arith in same) ∙ pow-suc b e in
          rw next (omega (arith, h, less))

    over_step : (n d : ℕ) (x : ℕ × ℕ) → IsOver n x → IsOver (n + n + d) (step 1 d x)
    unfolding step
    over_step n d x h =
        let twice = over_fit (n + n) (square 1 x) (over_square n x h) in
        over_fit (n + n + d) (times 1 d (fit 1 (square 1 x))) (over_times (n + n) d (fit 1 (square 1 x)) twice)

    under_step : (n d : ℕ) (x : ℕ × ℕ) → IsUnder n x → IsUnder (n + n + d) (step 0 d x)
    unfolding step
    under_step n d x h =
        let twice = under_fit (n + n) (square 0 x) (under_square n x h) in
        under_fit (n + n + d) (times 0 d (fit 0 (square 0 x))) (under_times (n + n) d (fit 0 (square 0 x)) twice)

    over : (f n : ℕ) → n < 2 ^ f → IsOver n (power 1 f n)
    unfolding power
    over zero n below =
        let none : 0 ≡ n = omega (arith, below) in
        subst (λ i. IsOver i (s, 0)) none (rw (pow-zero a, pow-zero b) (omega arith))
    over (suc f) n below =
        let half : n / 2 < 2 ^ f = omega (arith, below) in
        let whole : n / 2 + n / 2 + n % 2 ≡ n = omega arith in
        subst (λ i. IsOver i (step 1 (n % 2) (power 1 f (n / 2)))) whole
        (over_step (n / 2) (n % 2) (power 1 f (n / 2)) (over f (n / 2) half))

    under : (f n : ℕ) → n < 2 ^ f → IsUnder n (power 0 f n)
    unfolding power
    under zero n below =
        let none : 0 ≡ n = omega (arith, below) in
        subst (λ i. IsUnder i (s, 0)) none (rw (pow-zero a, pow-zero b) (omega arith))
    under (suc f) n below =
        let half : n / 2 < 2 ^ f = omega (arith, below) in
        let whole : n / 2 + n / 2 + n % 2 ≡ n = omega arith in
        subst (λ i. IsUnder i (step 0 (n % 2) (power 0 f (n / 2)))) whole
        (under_step (n / 2) (n % 2) (power 0 f (n / 2)) (under f (n / 2) half))

    near_over : (f p q : ℕ) → q < 2 ^ f → (power 1 f q).1 + 1 ≡ p → (power 1 f q).0 < b * s → a ^ q < b ^ p
    near_over f p q fits same short =
        let e = (power 1 f q).1 in
        let near = over f q fits in
        let some = one-le-pow e b some_b in
        let less = mul-lt-mul_of_pos_right short some in
        let next : b ^ p ≡ b ^ e * b = ap (λ i. b ^ i) (let is : p ≡ suc e = omega (arith, same) in is) ∙ pow-suc b e in
        rw next (lt_of_mul-lt-mul_right s (omega (arith, near, less)))

    near_under : (f p q : ℕ) → q < 2 ^ f → (power 0 f q).1 ≡ p → s < (power 0 f q).0 → b ^ p < a ^ q
    near_under f p q fits same long =
        let near = under f q fits in
        let some = one-le-pow p b some_b in
        let more = mul-lt-mul_of_pos_right long some in
        let is = subst (λ i. (power 0 f q).0 * b ^ i ≤ a ^ q * s) same near in
        lt_of_mul-lt-mul_right s (omega (arith, is, more))

  -- whether a^q is seen to be below b^p
  unfoldable pub is_below : ℕ → ℕ → ℕ → Bool
  is_below f p q = nat_lt q (2 ^ f) && (nat_eq ((power 1 f q).1 + 1) p && nat_lt (power 1 f q).0 (b * s))

  -- or above it
  unfoldable pub is_above : ℕ → ℕ → ℕ → Bool
  is_above f p q = nat_lt q (2 ^ f) && (nat_eq (power 0 f q).1 p && nat_lt s (power 0 f q).0)

  module _ (some_b : 0 < b) (some_s : 0 < s) (f p q : ℕ) where
    pub below : is_below f p q ≡ true → a ^ q < b ^ p
    unfolding is_below
    below seen =
        let fits = both (nat_lt q (2 ^ f)) (nat_eq ((power 1 f q).1 + 1) p && nat_lt (power 1 f q).0 (b * s)) seen in
        let rest = both (nat_eq ((power 1 f q).1 + 1) p) (nat_lt (power 1 f q).0 (b * s)) fits.1 in
        near_over some_b some_s f p q (ltb-true _ _ fits.0) (eqb-true _ _ rest.0) (ltb-true _ _ rest.1)

    pub above : is_above f p q ≡ true → b ^ p < a ^ q
    unfolding is_above
    above seen =
        let fits = both (nat_lt q (2 ^ f)) (nat_eq (power 0 f q).1 p && nat_lt s (power 0 f q).0) seen in
        let rest = both (nat_eq (power 0 f q).1 p) (nat_lt s (power 0 f q).0) fits.1 in
        near_under some_b some_s f p q (ltb-true _ _ fits.0) (eqb-true _ _ rest.0) (ltb-true _ _ rest.1)
