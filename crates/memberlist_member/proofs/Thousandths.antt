-- The table has the least integer of each thousandth of a decade.
use Rattle.std.proofs.Common.{◌≡◌, ℕ, zero, suc, ◌+◌, ◌-◌, ◌^◌, ◌<◌, ◌≤◌, Bool, true, false, ◌&&◌, drop, nat_lt, List, [], ◌∷◌, length, slice_index_or}
use Rattle.std.proofs.Common.{refl, subst, arith, ltb-true}
use Rattle.memberlist_member.specs.declared.powers.TheConstants.{POWERS}

-- whether this is the least integer whose 1,000th power is at least 10^(10,000 + j)
is_least : ℕ → ℕ → Bool
is_least j p = nat_lt ((p - 1) ^ 1000) (10 ^ (10000 + j)) && nat_lt (10 ^ (10000 + j)) (p ^ 1000 + 1)

-- whether so many are, from the one of j on
are_least : ℕ → ℕ → List ℕ → Bool
are_least zero j ps = true
are_least (suc n) j [] = true
are_least (suc n) j (p ∷ ps) = is_least j p && are_least n (j + 1) ps

pub both : (a b : Bool) → (a && b) ≡ true → (a ≡ true) × (b ≡ true)
both true true e = (refl, refl)
both true false e = absurd cc
both false b e = absurd cc

join : (a b : Bool) → a ≡ true → b ≡ true → (a && b) ≡ true
join true true e f = refl
join true false e f = absurd cc
join false b e f = absurd cc

more : (n m s j : ℕ) (ps : List ℕ) → s ≡ n + m → are_least n j ps ≡ true → are_least m (j + n) (drop n ps) ≡ true
    → are_least s j ps ≡ true
unfolding are_least
more zero m s j ps sum e f =
    subst (λ c. are_least c j ps ≡ true) (let same : m ≡ s = omega (arith, sum) in same)
    (subst (λ i. are_least m i ps ≡ true) (let same : j + 0 ≡ j = omega arith in same) f)
more (suc n) m s j [] sum e f =
    subst (λ c. are_least c j [] ≡ true) (let same : suc (n + m) ≡ s = omega (arith, sum) in same) refl
more (suc n) m s j (p ∷ ps) sum e f =
    let h = both (is_least j p) (are_least n (j + 1) ps) e in
    subst (λ c. are_least c j (p ∷ ps) ≡ true) (let same : suc (n + m) ≡ s = omega (arith, sum) in same)
    (join (is_least j p) (are_least (n + m) (j + 1) ps) h.0
    (more n m (n + m) (j + 1) ps refl h.1 (subst (λ i. are_least m i (drop n ps) ≡ true)
    (let same : j + suc n ≡ j + 1 + n = omega arith in same) f)))

least_at : (n j : ℕ) (ps : List ℕ) (k d : ℕ) → are_least n j ps ≡ true → k < n → k < length ps
    → is_least (j + k) (slice_index_or ps k d) ≡ true
unfolding are_least
least_at zero j ps k d e some within = absurd (omega (arith, some))
least_at (suc n) j [] k d e some within = absurd (omega arith)
least_at (suc n) j (p ∷ ps) zero d e some within =
    subst (λ i. is_least i p ≡ true) (let same : j ≡ j + 0 = omega arith in same) (both (is_least j p) (are_least n (j + 1) ps) e).0
least_at (suc n) j (p ∷ ps) (suc k) d e some within =
    subst (λ i. is_least i (slice_index_or ps k d) ≡ true) (let same : j + 1 + k ≡ j + suc k = omega arith in same)
    (least_at n (j + 1) ps k d (both (is_least j p) (are_least n (j + 1) ps) e).1 (omega (arith, some)) (omega arith))

-- fifty at a time, since a check takes only so many steps
part_0 : are_least 50 0 (drop 0 POWERS) ≡ true
unfolding are_least is_least
part_0 = refl

part_1 : are_least 50 50 (drop 50 POWERS) ≡ true
unfolding are_least is_least
part_1 = refl

part_2 : are_least 50 100 (drop 100 POWERS) ≡ true
unfolding are_least is_least
part_2 = refl

part_3 : are_least 50 150 (drop 150 POWERS) ≡ true
unfolding are_least is_least
part_3 = refl

part_4 : are_least 50 200 (drop 200 POWERS) ≡ true
unfolding are_least is_least
part_4 = refl

part_5 : are_least 50 250 (drop 250 POWERS) ≡ true
unfolding are_least is_least
part_5 = refl

part_6 : are_least 50 300 (drop 300 POWERS) ≡ true
unfolding are_least is_least
part_6 = refl

part_7 : are_least 50 350 (drop 350 POWERS) ≡ true
unfolding are_least is_least
part_7 = refl

part_8 : are_least 50 400 (drop 400 POWERS) ≡ true
unfolding are_least is_least
part_8 = refl

part_9 : are_least 50 450 (drop 450 POWERS) ≡ true
unfolding are_least is_least
part_9 = refl

part_10 : are_least 50 500 (drop 500 POWERS) ≡ true
unfolding are_least is_least
part_10 = refl

part_11 : are_least 50 550 (drop 550 POWERS) ≡ true
unfolding are_least is_least
part_11 = refl

part_12 : are_least 50 600 (drop 600 POWERS) ≡ true
unfolding are_least is_least
part_12 = refl

part_13 : are_least 50 650 (drop 650 POWERS) ≡ true
unfolding are_least is_least
part_13 = refl

part_14 : are_least 50 700 (drop 700 POWERS) ≡ true
unfolding are_least is_least
part_14 = refl

part_15 : are_least 50 750 (drop 750 POWERS) ≡ true
unfolding are_least is_least
part_15 = refl

part_16 : are_least 50 800 (drop 800 POWERS) ≡ true
unfolding are_least is_least
part_16 = refl

part_17 : are_least 50 850 (drop 850 POWERS) ≡ true
unfolding are_least is_least
part_17 = refl

part_18 : are_least 50 900 (drop 900 POWERS) ≡ true
unfolding are_least is_least
part_18 = refl

part_19 : are_least 50 950 (drop 950 POWERS) ≡ true
unfolding are_least is_least
part_19 = refl

last : are_least 1 1000 (drop 1000 POWERS) ≡ true
unfolding are_least is_least
last = refl

all_least : are_least 1001 0 POWERS ≡ true
all_least = more 1000 1 1001 0 POWERS refl (more 950 50 1000 0 POWERS refl (more 900 50 950 0 POWERS refl (more 850 50 900 0 POWERS refl (more 800 50 850 0 POWERS refl (more 750 50 800 0 POWERS refl (more 700 50 750 0 POWERS refl (more 650 50 700 0 POWERS refl (more 600 50 650 0 POWERS refl (more 550 50 600 0 POWERS refl (more 500 50 550 0 POWERS refl (more 450 50 500 0 POWERS refl (more 400 50 450 0 POWERS refl (more 350 50 400 0 POWERS refl (more 300 50 350 0 POWERS refl (more 250 50 300 0 POWERS refl (more 200 50 250 0 POWERS refl (more 150 50 200 0 POWERS refl (more 100 50 150 0 POWERS refl (more 50 50 100 0 POWERS refl part_0 part_1) part_2) part_3) part_4) part_5) part_6) part_7) part_8) part_9) part_10) part_11) part_12) part_13) part_14) part_15) part_16) part_17) part_18) part_19) last

up_to : (a b : ℕ) → a < b + 1 → a ≤ b
up_to a b below = omega (arith, below)

pub POWERS_at : (k d : ℕ) → k < 1001 → (((slice_index_or POWERS k d - 1) ^ 1000) < 10 ^ (10000 + k))
    × (10 ^ (10000 + k) ≤ (slice_index_or POWERS k d) ^ 1000)
unfolding is_least
POWERS_at k d below =
    let p = slice_index_or POWERS k d in
    let len : length POWERS ≡ 1001 = refl in
    let within : k < length POWERS = omega (arith, below, len) in
    let start : 0 + k ≡ k = omega arith in
    let at = subst (λ i. is_least i p ≡ true) start (least_at 1001 0 POWERS k d all_least below within) in
    let h = both (nat_lt ((p - 1) ^ 1000) (10 ^ (10000 + k))) (nat_lt (10 ^ (10000 + k)) (p ^ 1000 + 1)) at in
    (ltb-true _ _ h.0, up_to (10 ^ (10000 + k)) (p ^ 1000) (ltb-true _ _ h.1))

-- whether they rise
rise : ℕ → List ℕ → Bool
rise low [] = true
rise low (p ∷ ps) = nat_lt low p && rise p ps

rises : rise 0 POWERS ≡ true
unfolding rise
rises = refl

above : (low : ℕ) (ps : List ℕ) (k d : ℕ) → rise low ps ≡ true → k < length ps → low < slice_index_or ps k d
unfolding rise
above low [] k d e within = absurd (omega arith)
above low (p ∷ ps) zero d e within = ltb-true _ _ (both (nat_lt low p) (rise p ps) e).0
above low (p ∷ ps) (suc k) d e within =
    let h = both (nat_lt low p) (rise p ps) e in
    let first : low < p = ltb-true _ _ h.0 in
    let rest = above p ps k d h.1 (omega arith) in
    omega (arith, first, rest)

ordered : (low : ℕ) (ps : List ℕ) (i j d : ℕ) → rise low ps ≡ true → i ≤ j → j < length ps
    → slice_index_or ps i d ≤ slice_index_or ps j d
unfolding rise
ordered low [] i j d e below within = absurd (omega arith)
ordered low (p ∷ ps) zero zero d e below within = omega arith
ordered low (p ∷ ps) zero (suc j) d e below within =
    let rest = above p ps j d (both (nat_lt low p) (rise p ps) e).1 (omega arith) in
    omega (arith, rest)
ordered low (p ∷ ps) (suc i) zero d e below within = absurd (omega (arith, below))
ordered low (p ∷ ps) (suc i) (suc j) d e below within =
    ordered p ps i j d (both (nat_lt low p) (rise p ps) e).1 (omega (arith, below)) (omega arith)

pub POWERS_rise : (i j d : ℕ) → i ≤ j → j < length POWERS → slice_index_or POWERS i d ≤ slice_index_or POWERS j d
POWERS_rise i j d = ordered 0 POWERS i j d rises
