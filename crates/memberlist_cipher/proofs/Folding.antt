-- The part of a product from x ^ 128 on is folded into the part below.
use Rattle.std.proofs.Common.{◌≡◌, ℕ, zero, suc, ◌+◌, ◌*◌, ◌/◌, ◌%◌, ◌^◌, ◌<◌, ◌==◌, if◌then◌else◌, Bool, true, false}
use Rattle.std.proofs.Common.{List, ◌++◌, length, get_or, w8, Fits, bit_xor, refl, sym, ap, ap₂, ◌∙◌, arith}
use Rattle.std.specs.Int.{bit_at, w128, from_be_bytes}
use Rattle.std.specs.Int.Bits.{xor_assoc, xor_zero_l, xor_zero_r}
use Rattle.std.proofs.Math.Nat.{pow-suc, mul_comm, mod-eq_of_lt, mod-lt}
use Rattle.std.proofs.lemmas.Nat.{xor_block, mod-pow-add, pow_pos}
use lib.Lanes.{Each1}
use Rattle.memberlist_cipher.specs.Gcm.{times_x, steps}
use Rattle.memberlist_cipher.specs.Products.{shifted, poly}
use Rattle.memberlist_cipher.proofs.Products.{across, times_x_sum, times_x_even, steps_shifted, nothing, whole}
use Rattle.memberlist_cipher.proofs.Polys.{poly_append, poly_block}

-- ---- a sum of factors

picked_both : (b : Bool) (z w v u : ℕ)
    → (if b then bit_xor (bit_xor z w) (bit_xor v u) else bit_xor z w) ≡ bit_xor
    (if b then bit_xor z v else z) (if b then bit_xor w u else w)
picked_both true z w v u = across z w v u
picked_both false z w v u = refl

steps_both : (n x z w v u : ℕ) → steps n x (bit_xor z w) (bit_xor v u) ≡ bit_xor (steps n x z v) (steps n x w u)
unfolding steps
steps_both zero x z w v u = refl
steps_both (suc n) x z w v u =
    ap₂ (steps n x) (picked_both (bit_at x n == 1) z w v u) (times_x_sum v u)
    ∙ steps_both n x (if bit_at x n == 1 then bit_xor z v else z) (if bit_at x n == 1 then bit_xor w u else w) (times_x v) (times_x u)

factors_sum : (x v u : ℕ) → steps 128 x 0 (bit_xor v u) ≡ bit_xor (steps 128 x 0 v) (steps 128 x 0 u)
factors_sum x v u = steps_both 128 x 0 0 v u

-- ---- the factor 1

bit_and_rest : (z r p c : ℕ) → c < 2 → r < p → bit_xor p r ≡ p + r → bit_xor (if c == 1 then bit_xor z p else z) r ≡ bit_xor z (c * p + r)
bit_and_rest z r p zero small below apart = let e : r ≡ 0 * p + r = omega arith in ap (bit_xor z) e
bit_and_rest z r p (suc zero) small below apart = let e : p + r ≡ 1 * p + r = omega arith in xor_assoc z p r ∙ ap (bit_xor z) (apart ∙ e)
bit_and_rest z r p (suc (suc c)) small below apart = absurd (omega arith)

apart : (m r : ℕ) → r < 2 ^ m → bit_xor (2 ^ m) r ≡ 2 ^ m + r
apart m r below =
    let x : 2 ^ m ≡ 1 * 2 ^ m + 0 = omega arith in
    let y : r ≡ 0 * 2 ^ m + r = omega arith in
    let z : 1 * 2 ^ m + r ≡ 2 ^ m + r = omega arith in
    ap₂ bit_xor x y ∙ xor_block m 1 0 0 r (pow_pos m) below ∙ ap (λ (n : ℕ). 1 * 2 ^ m + n) (xor_zero_l r) ∙ z

one_bit : (z m x : ℕ) → bit_xor (if bit_at x m == 1 then bit_xor z (2 ^ m) else z) (x % 2 ^ m) ≡ bit_xor z (x % 2 ^ suc m)
one_bit z m x =
    let low = mod-lt x (pow_pos m) in
    let next : 1 + m ≡ suc m = omega arith in
    bit_and_rest z (x % 2 ^ m) (2 ^ m) (bit_at x m) (mod-lt (x / 2 ^ m) (pow_pos 1)) low (apart m (x % 2 ^ m) low)
    ∙ ap (bit_xor z) (sym (mod-pow-add x 1 m) ∙ ap (λ (k : ℕ). x % 2 ^ k) next)

steps_one : (n x z : ℕ) → steps (suc n) x z (2 ^ n) ≡ bit_xor z (x % 2 ^ suc n)
unfolding steps
steps_one zero x z =
    let none : 0 ≡ x % 2 ^ 0 = omega arith in
    let picked = if bit_at x 0 == 1 then bit_xor z (2 ^ 0) else z in
    sym (xor_zero_r picked) ∙ ap (bit_xor picked) none ∙ one_bit z 0 x
steps_one (suc n) x z =
    let half : times_x (2 ^ suc n) ≡ 2 ^ n = times_x_even (2 ^ n) (2 ^ suc n) (pow-suc 2 n ∙ mul_comm (2 ^ n) 2) in
    let picked = if bit_at x (suc n) == 1 then bit_xor z (2 ^ suc n) else z in
    ap (steps (suc n) x picked) half ∙ steps_one n x picked ∙ one_bit z (suc n) x

one_is : (v : ℕ) → v < 2 ^ 128 → steps 128 v 0 (2 ^ 127) ≡ v
one_is v small = steps_one 127 v 0 ∙ xor_zero_l (v % 2 ^ 128) ∙ mod-eq_of_lt small

-- ---- x ^ 128 = 1 + x + x ^ 2 + x ^ 7

fold_one : shifted 128 (2 ^ 127) ≡ bit_xor (bit_xor (bit_xor (2 ^ 127) (shifted 1 (2 ^ 127))) (shifted 2 (2 ^ 127))) (shifted 7 (2 ^ 127))
unfolding shifted times_x
fold_one = refl

folded : (v : ℕ) → v < 2 ^ 128 → shifted 128 v ≡ bit_xor (bit_xor (bit_xor v (shifted 1 v)) (shifted 2 v)) (shifted 7 v)
folded v small =
    let one = 2 ^ 127 in
    let times : (k : ℕ) → steps 128 v 0 (shifted k one) ≡ shifted k v = λ k.
    ap (λ (y : ℕ). steps 128 v y (shifted k one)) (sym (nothing k)) ∙ steps_shifted k 128 v 0 one ∙ ap (shifted k) (one_is v small) in
    sym (times 128)
    ∙ ap (steps 128 v 0) fold_one
    ∙ factors_sum v (bit_xor (bit_xor one (shifted 1 one)) (shifted 2 one)) (shifted 7 one)
    ∙ ap₂ bit_xor (factors_sum v (bit_xor one (shifted 1 one)) (shifted 2 one)
    ∙ ap₂ bit_xor (factors_sum v one (shifted 1 one) ∙ ap₂ bit_xor (one_is v small) (times 1)) (times 2)) (times 7)

shifted_right : (k v : ℕ) → v ≡ v / 2 ^ k * 2 ^ k → shifted k v ≡ v / 2 ^ k
shifted_right k v e = ap (shifted k) e ∙ whole k (v / 2 ^ k)

-- the last byte of a block whose last byte is 0
last_is : (bs : List ℕ) (n : ℕ) → n ≡ from_be_bytes w128 bs → get_or bs 15 0 ≡ 0 → n % 256 ≡ 0
last_is bs n e last = omega (arith, e, last)

pub reduced_is : (below above : List ℕ) (l h : ℕ) → length below ≡ 16 → length above ≡ 16 → Each1 (Fits w8) below → Each1 (Fits w8) above
    → l ≡ from_be_bytes w128 below → h ≡ from_be_bytes w128 above → h < 2 ^ 128 → get_or above 15 0 ≡ 0
    → bit_xor l (bit_xor (bit_xor (bit_xor h (h / 2 ^ 1)) (h / 2 ^ 2)) (h / 2 ^ 7)) ≡ poly (below ++ above)
reduced_is below above l h sb sa fb fa el eh small last =
    let zero_byte = last_is above h eh last in
    let size : 128 ≡ 8 * length below = omega arith in
    let one = shifted_right 1 h (omega arith) in
    let two = shifted_right 2 h (omega arith) in
    let seven = shifted_right 7 h (omega arith) in
    sym (poly_append below above
    ∙ ap₂ bit_xor (poly_block below sb fb ∙ sym el)
    (ap (λ (k : ℕ). shifted k (poly above)) (sym size)
    ∙ ap (shifted 128) (poly_block above sa fa ∙ sym eh)
    ∙ folded h small
    ∙ ap₂ bit_xor (ap₂ bit_xor (ap (bit_xor h) one) two) seven))
