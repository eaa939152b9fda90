-- The decimal logarithm in thousandths, from the table.
use Rattle.std.proofs.Common.{◌≡◌, ℕ, zero, suc, ◌+◌, ◌-◌, ◌*◌, ◌^◌, ◌<◌, ◌≤◌, ◌⊎◌, inl, inr, slice_index_or, refl, sym, subst, ap, ◌∙◌, arith, pow-add, Bool, true, false, nat_lt, ltb-true, ltb-false}
use Rattle.std.proofs.Math.Nat.{pow-suc, pow-zero, one-le-pow, pow-succ', mul-le-mul_right, mul-lt-mul_of_pos_right, eq-or-lt_of_le, suc-mul, zero-mul, pow-le-pow_left, pow-le-pow_right, le_of_mul-le-mul_right, lt_of_mul-lt-mul_right}
use Rattle.std.proofs.lemmas.Nat.{mul-pow}
use Rattle.memberlist_member.specs.declared.powers.TheConstants.{POWERS}
use Rattle.memberlist_member.proofs.Thousandths.{POWERS_at}

pub pow_pow : (b m k : ℕ) → (b ^ m) ^ k ≡ b ^ (k * m)
pow_pow b m zero = pow-zero (b ^ m) ∙ sym (ap (λ e. b ^ e) (zero-mul m) ∙ pow-zero b)
pow_pow b m (suc k) =
    pow-suc (b ^ m) k ∙ ap (λ x. x * b ^ m) (pow_pow b m k) ∙ sym (pow-add b (k * m) m) ∙ sym (ap (λ e. b ^ e) (suc-mul k m))

le_trans : (a b c : ℕ) → a ≤ b → b ≤ c → a ≤ c
le_trans a b c x y = omega (arith, x, y)

le_lt : (a b c : ℕ) → a ≤ b → b < c → a < c
le_lt a b c x y = omega (arith, x, y)

-- where a number is in its decade, so is the logarithm
module _ (n w s j : ℕ) (small : w ≤ 10) (scaled : s ≡ n * 10 ^ (10 - w)) where
  thousandth : s ^ 1000 ≡ n ^ 1000 * 10 ^ (1000 * (10 - w))
  thousandth = ap (λ x. x ^ 1000) scaled ∙ mul-pow n (10 ^ (10 - w)) 1000 ∙ ap (λ x. n ^ 1000 * x) (pow_pow 10 (10 - w) 1000)

  exponents : (e : ℕ) → 10 ^ (w * 1000 + e) * 10 ^ (1000 * (10 - w)) ≡ 10 ^ (10000 + e)
  exponents e =
      let sum : w * 1000 + e + 1000 * (10 - w) ≡ 10000 + e = omega (arith, small) in
      sym (pow-add 10 (w * 1000 + e) (1000 * (10 - w))) ∙ ap (λ x. 10 ^ x) sum

  pub at_least : (p : ℕ) → p ≤ s → 10 ^ (10000 + j) ≤ p ^ 1000 → 10 ^ (w * 1000 + j) ≤ n ^ 1000
  at_least p low reaches =
      let whole = le_trans (10 ^ (10000 + j)) (p ^ 1000) (s ^ 1000) reaches (pow-le-pow_left low 1000) in
      le_of_mul-le-mul_right (subst (λ x. x ≤ n ^ 1000 * 10 ^ (1000 * (10 - w))) (sym (exponents j))
      (subst (λ x. 10 ^ (10000 + j) ≤ x) thousandth whole)) (one-le-pow (1000 * (10 - w)) 10 (let some : 0 < 10 = omega arith in some))

  pub below : (q : ℕ) → s ≤ q → q ^ 1000 < 10 ^ (10000 + j) → n ^ 1000 < 10 ^ (w * 1000 + j)
  below q high lacks =
      let whole = le_lt (s ^ 1000) (q ^ 1000) (10 ^ (10000 + j)) (pow-le-pow_left high 1000) lacks in
      lt_of_mul-lt-mul_right (10 ^ (1000 * (10 - w))) (subst (λ x. n ^ 1000 * 10 ^ (1000 * (10 - w)) < x) (sym (exponents j))
      (subst (λ x. x < 10 ^ (10000 + j)) thousandth whole))

-- the number is in the decade of the table
pub in_decade : (n w s : ℕ) → w ≤ 10 → 10 ^ w ≤ n → n < 10 * 10 ^ w → s ≡ n * 10 ^ (10 - w)
    → (10000000000 ≤ s) × (s < 100000000000)
in_decade n w s small low high is =
    let some : 0 < 10 ^ (10 - w) = one-le-pow (10 - w) 10 (let ten : 0 < 10 = omega arith in ten) in
    let whole : w + (10 - w) ≡ 10 = omega (arith, small) in
    let next : suc w + (10 - w) ≡ 11 = omega (arith, small) in
    let first : 10 ^ w * 10 ^ (10 - w) ≡ 10000000000 = sym (pow-add 10 w (10 - w)) ∙ ap (λ e. 10 ^ e) whole in
    let last : 10 * 10 ^ w * 10 ^ (10 - w) ≡ 100000000000 =
    ap (λ x. x * 10 ^ (10 - w)) (sym (pow-succ' 10 w)) ∙ sym (pow-add 10 (suc w) (10 - w)) ∙ ap (λ e. 10 ^ e) next in (
      subst (λ x. 10000000000 ≤ x) (sym is) (subst (λ x. x ≤ n * 10 ^ (10 - w)) first (mul-le-mul_right (10 ^ (10 - w)) low)),
      subst (λ x. x < 100000000000) (sym is) (subst (λ x. n * 10 ^ (10 - w) < x) last (mul-lt-mul_of_pos_right high some)),
    )

module _ (n w s place : ℕ) (small : w ≤ 10) (low : 10 ^ w ≤ n) (high : n < 10 * 10 ^ w) (is : s ≡ n * 10 ^ (10 - w))
    (bound : place ≤ 1001) (under : (k d : ℕ) → 0 ≤ k → k < place → slice_index_or POWERS k d < s + 1)
    (over : (k d : ℕ) → place ≤ k → k < 1001 → s + 1 ≤ slice_index_or POWERS k d) where
  pub some : 1 ≤ place
  some = cases place refl where
    cases : (p : ℕ) → place ≡ p → 1 ≤ place
    cases zero none =
        let first : slice_index_or POWERS 0 0 ≡ 10000000000 = refl in
        let starts = over 0 0 (let le : place ≤ 0 = omega (arith, none) in le) (let lt : 0 < 1001 = omega arith in lt) in
        let sized = (in_decade n w s small low high is).0 in
        omega (arith, first, starts, sized)
    cases (suc p) more = omega (arith, more)

  pub not_all : place ≤ 1000
  not_all = cases (eq-or-lt_of_le bound) where
    cases : (place ≡ 1001) ⊎ (place < 1001) → place ≤ 1000
    cases (inl all) =
        let last : slice_index_or POWERS 1000 0 ≡ 100000000000 = refl in
        let ends = under 1000 0 (let le : 0 ≤ 1000 = omega arith in le) (let lt : 1000 < place = omega (arith, all) in lt) in
        let sized = (in_decade n w s small low high is).1 in
        omega (arith, last, ends, sized)
    cases (inr less) = omega (arith, less)

  pub reached : 10 ^ (w * 1000 + place - 1) ≤ n ^ 1000
  reached =
      let j = place - 1 in
      let within : j < place = omega (arith, some) in
      let table = POWERS_at j 0 (let lt : j < 1001 = omega (arith, bound, some) in lt) in
      let p = slice_index_or POWERS j 0 in
      let le : p ≤ s = omega (arith, under j 0 (let le : 0 ≤ j = omega arith in le) within) in
      let same : w * 1000 + (place - 1) ≡ w * 1000 + place - 1 = omega (arith, some) in
      subst (λ e. 10 ^ e ≤ n ^ 1000) same (at_least n w s j small is p le table.1)

  pub lacked : n ^ 1000 < 10 ^ (w * 1000 + place - 1 + 1)
  lacked =
      let table = POWERS_at place 0 (let lt : place < 1001 = omega (arith, not_all) in lt) in
      let p = slice_index_or POWERS place 0 in
      let le : s ≤ p - 1 = omega (
        arith,
        over place 0 (let le : place ≤ place = omega arith in le)
            (let lt : place < 1001 = omega (arith, not_all) in lt),
      ) in
      let same : w * 1000 + place ≡ w * 1000 + place - 1 + 1 = omega (arith, some) in
      subst (λ e. n ^ 1000 < 10 ^ e) same (below n w s place small is (p - 1) le table.0)

-- ---- the least exponents

module _ (b n w : ℕ) (two : 2 ≤ b) (low : b ^ w ≤ n) (high : n < b * b ^ w) where
  pub next : n < b ^ (w + 1)
  next =
      let same : suc w ≡ w + 1 = omega arith in
      subst (λ x. n < x) (sym (pow-succ' b w) ∙ ap (λ e. b ^ e) same) high

  pub above : (k : ℕ) → n < b ^ k → w + 1 ≤ k
  above k below_it = cases (nat_lt w k) refl where
    cases : (less : Bool) → nat_lt w k ≡ less → w + 1 ≤ k
    cases true e = omega (arith, ltb-true w k e)
    cases false e =
        let some_base : 0 < b = omega (arith, two) in
        let most : b ^ k ≤ b ^ w = pow-le-pow_right some_base (ltb-false w k e) in
        absurd (omega (arith, most, low, below_it))

pub at_least_five : (m w : ℕ) → 32 ≤ m → m < 2 * 2 ^ w → 5 ≤ w
at_least_five m w big high = cases (nat_lt w 5) refl where
  cases : (less : Bool) → nat_lt w 5 ≡ less → 5 ≤ w
  cases true e =
      let small : w ≤ 4 = omega (arith, ltb-true w 5 e) in
      let base : 0 < 2 = omega arith in
      let most : 2 ^ w ≤ 16 = pow-le-pow_right base small in
      absurd (omega (arith, most, big, high))
  cases false e = ltb-false w 5 e
