-- How long a member is suspected.
use Rattle.std.proofs.Common.{◌≡◌, ℕ, ◌+◌, ◌-◌, ◌*◌, ◌/◌, ◌^◌, ◌<◌, ◌≤◌, Bool, true, false, max, min, nat_lt, refl, sym, subst, arith, ltb-true, ltb-false, mul-le-mul, mul-le-mul_right}
use Rattle.std.proofs.Math.Nat.{one-le-pow, pow-le-pow_left, pow-le-pow_right, pow-lt-pow_left}
use Rattle.std.proofs.lemmas.Grind.{div_ceil_times}
use Rattle.std.specs.Int.{div_ceil}
use Rattle.memberlist_member.specs.Scales.{IsMilliLog}
use Rattle.memberlist_member.specs.Suspicions.{IsDue, IsGreatest, IsShare, IsWithin, Lasts, Span}
use Rattle.memberlist_member.proofs.Logarithms.{pow_pow}
use Rattle.memberlist_member.proofs.Shares.{grows, one_power}

-- the longest time, less p/q of what it is above the least one, is the greatest within
module _ (k c p q least most less : ℕ) (share : IsShare k c p q) (some : 0 < q) (proper : p ≤ q) (ordered : least ≤ most)
    (bound : most < 2 ^ 54) (is : less ≡ div_ceil ((most - least) * p) q) where
  -- it is rounded up
  rounded : ((most - least) * p ≤ less * q) × (less * q < (most - least) * p + q)
  rounded = rw is (div_ceil_times ((most - least) * p) q some)

  pub at_most : less ≤ most - least
  at_most = cases (nat_lt (most - least) less) refl where
    cases : (more : Bool) → nat_lt (most - least) less ≡ more → less ≤ most - least
    cases true e =
        let d = most - least in
        let one : d + 1 ≤ less = omega (arith, ltb-true (most - least) less e) in
        let more = mul-le-mul_right q one in
        let whole : p * d ≤ q * d = mul-le-mul_right d proper in
        absurd (omega (arith, more, whole, rounded.1))
    cases false e = ltb-false (most - least) less e

  pub greatest : IsGreatest (IsWithin k c least most) (most - less)
  greatest =
      let small : most - least < 2 ^ 54 = omega (arith, bound) in
      let back : less ≡ most - (most - less) = omega (arith, at_most) in (
        (omega arith, subst (λ x. (c + 1) ^ (most - least) ≤ (k + 1) ^ x) back ((share (most - least) less small).1 rounded.0)),
        λ r within. first r within (nat_lt (most - r) less) refl,
      ) where
        first : (r : ℕ) → IsWithin k c least most r → (fewer : Bool) → nat_lt (most - r) less ≡ fewer → r ≤ most - less
        first r within true e =
            let small : most - least < 2 ^ 54 = omega (arith, bound) in
            let need = (share (most - least) (most - r) small).0 within.1 in
            let y = most - r in
            let one : y + 1 ≤ less = omega (arith, ltb-true (most - r) less e) in
            let more = mul-le-mul_right q one in
            absurd (omega (arith, need, more, rounded.1))
        first r within false e = omega (arith, ltb-false (most - r) less e, within.0)

-- the logarithm of a number of members is below ten
below_ten : (n r : ℕ) → n < 2 ^ 32 → IsMilliLog (max 1 n) r → r < 10000
below_ten n r small log = cases (nat_lt r 10000) refl where
  cases : (less : Bool) → nat_lt r 10000 ≡ less → r < 10000
  cases true e = ltb-true r 10000 e
  cases false e =
      let m : max 1 n < 10 ^ 10 = omega (arith, small) in
      let ten : 0 < 10 = omega arith in
      let top : max 1 n ^ 1000 < (10 ^ 10) ^ 1000 = pow-lt-pow_left {n = 1000} m (omega arith) in
      let same : (10 ^ 10) ^ 1000 ≡ 10 ^ 10000 = pow_pow 10 10 1000 in
      let most : 10 ^ 10000 ≤ 10 ^ r = pow-le-pow_right ten (ltb-false r 10000 e) in
      absurd (omega (arith, top, same, most, log.0))

-- the longest time that there can be
module _ (n r mult interval time times : ℕ) (members : n < 2 ^ 32) (few : mult ≤ 6) (short : interval < 2 ^ 32) (many : times < 2 ^ 16)
    (log : IsMilliLog (max 1 n) r) (is : time ≡ mult * max 1000 r * interval) where
  pub most_bound : times * (time / 1000) < 2 ^ 54
  most_bound =
      let ten = below_ten n r members log in
      let scale : max 1000 r ≤ 9999 = omega (arith, ten) in
      let last : interval ≤ 4294967295 = omega (arith, short) in
      let whole : mult * max 1000 r * interval ≤ 6 * 9999 * 4294967295 = mul-le-mul (mul-le-mul few scale) last in
      let least : time / 1000 ≤ 257672267896 = omega (arith, whole, is) in
      let top : times ≤ 65535 = omega (arith, many) in
      let most = mul-le-mul top least in
      omega (arith, most)

-- ---- laws

-- k is 0, or not
module _ (k : ℕ) {P : Type 0} (none : k ≡ 0 → P) (some : 1 ≤ k → P) where
  wanted : P
  wanted = cases (nat_lt 0 k) refl where
    cases : (more : Bool) → nat_lt 0 k ≡ more → P
    cases true e = some (omega (arith, ltb-true 0 k e))
    cases false e = none (omega (arith, ltb-false 0 k e))

-- fewer confirmations ask for less
fewer : (k c d least most r : ℕ) → c ≤ d → IsWithin k d least most r → IsWithin k c least most r
fewer k c d least most r less within =
    let one : c + 1 ≤ d + 1 = omega (arith, less) in
    let power : (c + 1) ^ (most - least) ≤ (d + 1) ^ (most - least) = pow-le-pow_left one (most - least) in
    (within.0, omega (arith, power, within.1))

-- it lasts no longer
pub shortens : (k c d least most r s : ℕ) → c ≤ d → Lasts k c least most r → Lasts k d least most s → s ≤ r
shortens k c d least most r s less one other = wanted k
    (λ none. let first = one.0 none in let second = other.0 none in omega (arith, first, second))
    (λ some. (one.1 some).1 s (fewer k c d least most s less (other.1 some).0))

-- so it ends no later
pub ends_sooner : (s : Span) (few many start one other : ℕ) → few ≤ many → IsDue s few start one → IsDue s many start other
    → other ≤ one
ends_sooner s few many start one other less (r, lasts, due) (t, later, end) =
    let more : min s.wanted (few - 1) ≤ min s.wanted (many - 1) = omega (arith, less) in
    let sooner = shortens s.wanted (min s.wanted (few - 1)) (min s.wanted (many - 1)) s.least s.most r t more lasts later in
    omega (arith, sooner, due, end)

-- all confirmations give the least time
least_within : (k least most : ℕ) → least ≤ most → IsWithin k k least most least
least_within k least most ordered = (ordered, omega arith)

-- with no confirmation it lasts longest
pub longest : (k least most r : ℕ) → 1 ≤ k → Lasts k 0 least most r → r ≡ most
longest k least most r some lasts =
    let base : 0 < k + 1 = omega arith in
    let one : 1 ≤ (k + 1) ^ (most - most) = one-le-pow (most - most) (k + 1) base in
    let none : (0 + 1) ^ (most - least) ≤ (k + 1) ^ (most - most) = subst (λ x. x ≤ (k + 1) ^ (most - most)) (sym (one_power (most - least))) one in
    let whole : most ≤ most = omega arith in
    let up = (lasts.1 some).1 most (whole, none) in
    omega (arith, up, (lasts.1 some).0.0)

-- with all of them, least
pub shortest : (k least most r : ℕ) → least ≤ most → Lasts k k least most r → r ≡ least
shortest k least most r ordered lasts = wanted k lasts.0
    (λ some.
    let base : 2 ≤ k + 1 = omega (arith, some) in
    let down = grows (k + 1) (most - least) (most - r) base (lasts.1 some).0.1 in
    let up = (lasts.1 some).1 least (least_within k least most ordered) in
    omega (arith, down, up, (lasts.1 some).0.0, ordered))

-- and always something between
pub between : (k c least most r : ℕ) → c ≤ k → least ≤ most → Lasts k c least most r → (least ≤ r) × (r ≤ most)
between k c least most r few ordered lasts = wanted k
    (λ none. let same = lasts.0 none in (omega (arith, same), omega (arith, same, ordered)))
    (λ some. ((lasts.1 some).1 least (fewer k c k least most least few (least_within k least most ordered)), (lasts.1 some).0.0))
