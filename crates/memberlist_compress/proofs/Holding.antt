-- Held bits as a number.
use Rattle.std.proofs.Common.{◌≡◌, ℕ, ◌+◌, ◌-◌, ◌*◌, ◌/◌, ◌%◌, ◌^◌, ◌<◌, ◌≤◌, ◌++◌, ap, subst, ◌∙◌, arith, bit_and}
use Rattle.std.proofs.lemmas.Nat.{shl_whole, mul-add-lt, pow-add, and_mask, shr_below}
use Rattle.std.proofs.Math.Nat.{pow-le-pow_right}
use Rattle.memberlist_wrap.specs.Bits.{bits}
use Rattle.memberlist_wrap.proofs.Polynomials.{bits-cat, bits_split}

pub shifted : (n w code : ℕ) → n + w ≤ 24 → code < 2 ^ w → (code * 2 ^ n) % 2 ^ 32 ≡ code * 2 ^ n
shifted n w code room narrow = shl_whole code w n 32 narrow (omega arith)

pub sum_below : (n w v code : ℕ) → v < 2 ^ n → code < 2 ^ w → v + code * 2 ^ n < 2 ^ (n + w)
sum_below n w v code below narrow = omega (arith, mul-add-lt code (2 ^ n) v (2 ^ w) narrow below, pow-add 2 n w)

pub sum_fits : (n w v code : ℕ) → n + w ≤ 24 → v < 2 ^ n → code < 2 ^ w → v + code * 2 ^ n < 2 ^ 32
sum_fits n w v code room below narrow =
    let most : 2 ^ (n + w) ≤ 2 ^ 24 = pow-le-pow_right {n = 2} (omega arith) {i = n + w} {j = 24} (omega arith) in
    omega (arith, sum_below n w v code below narrow)

pub sum_bits : (n w v code : ℕ) → v < 2 ^ n → bits (n + w) (v + code * 2 ^ n) ≡ bits n v ++ bits w code
sum_bits n w v code below =
    let turned : v + code * 2 ^ n ≡ code * 2 ^ n + v = omega arith in
    ap (bits (n + w)) turned ∙ bits-cat n w v code below

pub first_bits : (n v : ℕ) → 8 ≤ n → bits n v ≡ bits 8 (bit_and v 255) ++ bits (n - 8) (v / 256)
first_bits n v enough =
    let all : n ≡ 8 + (n - 8) = omega arith in
    ap (λ m. bits m v) all ∙ bits_split 8 (n - 8) v ∙ ap (λ x. bits 8 x ++ bits (n - 8) (v / 256)) (byte v)
  where
    byte : (v : ℕ) → v % 2 ^ 8 ≡ bit_and v 255
    byte v = omega (arith, and_mask v 8)

pub rest_below : (n v : ℕ) → 8 ≤ n → v < 2 ^ n → v / 256 < 2 ^ (n - 8)
rest_below n v enough below =
    let P : ℕ → Type 0 = λ m. v < 2 ^ m in
    let all : n ≡ n - 8 + 8 = omega arith in
    shr_below v (n - 8) 8 (subst P all below)

-- the bits, and zeros after them
pub padded_bits : (n v : ℕ) → n ≤ 8 → v < 2 ^ n → bits 8 v ≡ bits n v ++ bits (8 - n) 0
padded_bits n v few below =
    let all : 8 ≡ n + (8 - n) = omega arith in
    let same : v ≡ v + 0 * 2 ^ n = omega arith in
    ap (λ m. bits m v) all ∙ ap (bits (n + (8 - n))) same ∙ sum_bits n (8 - n) v 0 below

pub value_small : (n v : ℕ) → n < 8 → v < 2 ^ n → v < 2 ^ 8
value_small n v few below =
    let most : 2 ^ n ≤ 2 ^ 8 = pow-le-pow_right {n = 2} (omega arith) {i = n} {j = 8} (omega arith) in
    omega arith
