-- Products, some bits at a time.
use Rattle.std.proofs.Common.{◌≡◌, ℕ, zero, suc, ◌+◌, ◌*◌, ◌/◌, ◌%◌, ◌^◌, ◌<◌, ◌≤◌, ◌==◌, if◌then◌else◌, Bool, true}
use Rattle.std.proofs.Common.{false, bit_xor, refl, sym, ap, ap₂, ◌∙◌, arith}
use Rattle.std.specs.Int.{bit_at}
use Rattle.std.specs.Int.Bits.{xor_assoc, xor_zero_r}
use Rattle.std.proofs.Math.Nat.{pow-suc, mul_assoc, mul_comm}
use Rattle.std.proofs.lemmas.Nat.{shr-shr, shr_split, xor_comm, xor_shr}
use Rattle.std.proofs.lemmas.Nat.Bits.{bit_at_cat_low, bit_at_lowest, bit_at_xor}
use Rattle.memberlist_cipher.specs.Gcm.{times_x, steps}
use Rattle.memberlist_cipher.specs.Products.{shifted}

-- ---- bits

bit_above : (x m n : ℕ) → bit_at (x / 2 ^ m) n ≡ bit_at x (n + m)
bit_above x m n =
    let e : m + n ≡ n + m = omega arith in
    ap (λ (q : ℕ). q % 2) (shr-shr x m n) ∙ ap (bit_at x) e

bit_below : (y k i : ℕ) → i < k → bit_at (y % 2 ^ k) i ≡ bit_at y i
bit_below y k i low = sym (bit_at_cat_low (y / 2 ^ k) k (y % 2 ^ k) i low) ∙ ap (λ (n : ℕ). bit_at n i) (shr_split y k)

picked : (b : Bool) (z w v : ℕ) → (if b then bit_xor (bit_xor z w) v else bit_xor z w) ≡ bit_xor z (if b then bit_xor w v else w)
picked true z w v = xor_assoc z w v
picked false z w v = refl

pub across : (p q r s : ℕ) → bit_xor (bit_xor p q) (bit_xor r s) ≡ bit_xor (bit_xor p r) (bit_xor q s)
across p q r s =
    xor_assoc p q (bit_xor r s)
    ∙ ap (bit_xor p) (sym (xor_assoc q r s) ∙ ap (λ (y : ℕ). bit_xor y s) (xor_comm q r) ∙ xor_assoc r q s)
    ∙ sym (xor_assoc p r (bit_xor q s))

-- ---- a sum, times x

-- what a shifted-out bit adds
unfoldable pub fallen : ℕ → ℕ
fallen b = if b == 1 then 0xe1 * 2 ^ 120 else 0

pub times_x_is : (v : ℕ) → times_x v ≡ bit_xor (v / 2) (fallen (v % 2))
unfolding times_x fallen
times_x_is v = either (v % 2 == 1) where
  either : (b : Bool) → (if b then bit_xor (v / 2) (0xe1 * 2 ^ 120) else v / 2) ≡ bit_xor (v / 2) (if b then 0xe1 * 2 ^ 120 else 0)
  either true = refl
  either false = sym (xor_zero_r (v / 2))

fallen_is : (b : ℕ) → b < 2 → b * (0xe1 * 2 ^ 120) ≡ fallen b
unfolding fallen
fallen_is zero small = refl
fallen_is (suc zero) small = refl
fallen_is (suc (suc b)) small = absurd (omega arith)

pub times_x_by_bit : (v : ℕ) → bit_xor (v / 2) (v % 2 * (0xe1 * 2 ^ 120)) ≡ times_x v
times_x_by_bit v = ap (bit_xor (v / 2)) (fallen_is (v % 2) (omega arith)) ∙ sym (times_x_is v)

fallen_sum : (i j : ℕ) → i < 2 → j < 2 → fallen ((i + j) % 2) ≡ bit_xor (fallen i) (fallen j)
unfolding fallen
fallen_sum zero zero hi hj = refl
fallen_sum zero (suc zero) hi hj = refl
fallen_sum (suc zero) zero hi hj = refl
fallen_sum (suc zero) (suc zero) hi hj = refl
fallen_sum (suc (suc i)) j hi hj = absurd (omega arith)
fallen_sum i (suc (suc j)) hi hj = absurd (omega arith)

lowest : (a b : ℕ) → bit_xor a b % 2 ≡ (a % 2 + b % 2) % 2
lowest a b =
    sym (bit_at_lowest (bit_xor a b))
    ∙ bit_at_xor a b 0
    ∙ ap₂ (λ (p q : ℕ). (p + q) % 2) (bit_at_lowest a) (bit_at_lowest b)

pub times_x_sum : (a b : ℕ) → times_x (bit_xor a b) ≡ bit_xor (times_x a) (times_x b)
times_x_sum a b =
    times_x_is (bit_xor a b)
    ∙ ap₂ bit_xor (xor_shr a b 1) (ap fallen (lowest a b) ∙ fallen_sum (a % 2) (b % 2) (omega arith) (omega arith))
    ∙ across (a / 2) (b / 2) (fallen (a % 2)) (fallen (b % 2))
    ∙ sym (ap₂ bit_xor (times_x_is a) (times_x_is b))

pub shifted_sum : (n a b : ℕ) → shifted n (bit_xor a b) ≡ bit_xor (shifted n a) (shifted n b)
unfolding shifted
shifted_sum zero a b = refl
shifted_sum (suc n) a b = ap (shifted n) (times_x_sum a b) ∙ shifted_sum n (times_x a) (times_x b)

pub times_x_even : (m v : ℕ) → v ≡ 2 * m → times_x v ≡ m
unfolding fallen
times_x_even m v e =
    let half : v / 2 ≡ m = omega arith in
    let none : v % 2 ≡ 0 = omega arith in
    times_x_is v ∙ ap₂ bit_xor half (ap fallen none) ∙ xor_zero_r m

-- what is shifted out at the right is 0
pub whole : (k q : ℕ) → shifted k (q * 2 ^ k) ≡ q
unfolding shifted
whole zero q = omega arith
whole (suc k) q =
    let twice : q * 2 ^ suc k ≡ 2 * (q * 2 ^ k) = ap
    (λ (p : ℕ). q * p) (pow-suc 2 k) ∙ sym (mul_assoc q (2 ^ k) 2) ∙ mul_comm (q * 2 ^ k) 2 in
    ap (shifted k) (times_x_even (q * 2 ^ k) (q * 2 ^ suc k) twice) ∙ whole k q

pub shifted_add : (n m v : ℕ) → shifted (n + m) v ≡ shifted m (shifted n v)
unfolding shifted
shifted_add zero m v = let e : 0 + m ≡ m = omega arith in ap (λ (k : ℕ). shifted k v) e
shifted_add (suc n) m v =
    let e : suc n + m ≡ suc (n + m) = omega arith in
    ap (λ (k : ℕ). shifted k v) e ∙ shifted_add n m (times_x v)

-- ---- steps

pub steps_sum : (n x z w v : ℕ) → steps n x (bit_xor z w) v ≡ bit_xor z (steps n x w v)
unfolding steps
steps_sum zero x z w v = refl
steps_sum (suc n) x z w v =
    ap (λ (y : ℕ). steps n x y (times_x v)) (picked (bit_at x n == 1) z w v)
    ∙ steps_sum n x z (if bit_at x n == 1 then bit_xor w v else w) (times_x v)

-- the steps of the n bits from the m-th on, and then those of the m bits below
pub steps_split : (n m x z v : ℕ) → steps (n + m) x z v ≡ steps m x (steps n (x / 2 ^ m) z v) (shifted n v)
unfolding steps shifted
steps_split zero m x z v =
    let e : 0 + m ≡ m = omega arith in
    ap (λ (k : ℕ). steps k x z v) e
steps_split (suc n) m x z v =
    let e : suc n + m ≡ suc (n + m) = omega arith in
    ap (λ (k : ℕ). steps k x z v) e
    ∙ steps_split n m x (if bit_at x (n + m) == 1 then bit_xor z v else z) (times_x v)
    ∙ ap (λ (b : ℕ). steps m x (steps n (x / 2 ^ m) (if b == 1 then bit_xor z v else z) (times_x v))
    (shifted n (times_x v))) (sym (bit_above x m n))

pub steps_low : (n k y w v : ℕ) → n ≤ k → steps n (y % 2 ^ k) w v ≡ steps n y w v
unfolding steps
steps_low zero k y w v few = refl
steps_low (suc n) k y w v few =
    ap (λ (b : ℕ). steps n (y % 2 ^ k) (if b == 1 then bit_xor w v else w) (times_x v)) (bit_below y k n (omega arith))
    ∙ steps_low n k y (if bit_at y n == 1 then bit_xor w v else w) (times_x v) (omega arith)

times_x_picked : (b : Bool) (z v : ℕ) → (if b then bit_xor (times_x z) (times_x v) else times_x z) ≡ times_x (if b then bit_xor z v else z)
times_x_picked true z v = sym (times_x_sum z v)
times_x_picked false z v = refl

steps_times_x : (n x z v : ℕ) → steps n x (times_x z) (times_x v) ≡ times_x (steps n x z v)
unfolding steps
steps_times_x zero x z v = refl
steps_times_x (suc n) x z v =
    ap (λ (y : ℕ). steps n x y (times_x (times_x v))) (times_x_picked (bit_at x n == 1) z v)
    ∙ steps_times_x n x (if bit_at x n == 1 then bit_xor z v else z) (times_x v)

pub steps_shifted : (k n x z v : ℕ) → steps n x (shifted k z) (shifted k v) ≡ shifted k (steps n x z v)
unfolding shifted
steps_shifted zero n x z v = refl
steps_shifted (suc k) n x z v = steps_shifted k n x (times_x z) (times_x v) ∙ ap (shifted k) (steps_times_x n x z v)

nothing_once : times_x 0 ≡ 0
unfolding times_x
nothing_once = refl

pub nothing : (k : ℕ) → shifted k 0 ≡ 0
unfolding shifted
nothing zero = refl
nothing (suc k) = ap (shifted k) nothing_once ∙ nothing k

-- n bits above m others
pub more : (n m x v : ℕ) → steps (n + m) x 0 v ≡ bit_xor (steps n (x / 2 ^ m) 0 v) (shifted n (steps m (x % 2 ^ m) 0 v))
more n m x v =
    let d = steps n (x / 2 ^ m) 0 v in
    steps_split n m x 0 v
    ∙ ap (λ (y : ℕ). steps m x y (shifted n v)) (sym (xor_zero_r d))
    ∙ steps_sum m x d 0 (shifted n v)
    ∙ ap (λ (y : ℕ). bit_xor d (steps m x y (shifted n v))) (sym (nothing n))
    ∙ ap (bit_xor d) (steps_shifted n m x 0 v ∙ ap (shifted n) (sym (steps_low m m x 0 v (omega arith))))

pub four_steps : (d v b c e p q r s : ℕ) → b ≡ times_x v → c ≡ times_x b → e ≡ times_x c → p ≡ (if bit_at d 3 == 1 then bit_xor 0 v else 0)
    → q ≡ (if bit_at d 2 == 1 then bit_xor p b else p) → r ≡ (if bit_at d 1 == 1 then bit_xor q c else q)
    → s ≡ (if bit_at d 0 == 1 then bit_xor r e else r) → s ≡ steps 4 d 0 v
unfolding steps
four_steps d v b c e p q r s hb hc he hp hq hr hs = rw (hs, hr, hq, hp, he, hc, hb) refl
