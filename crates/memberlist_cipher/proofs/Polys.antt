-- Bytes as polynomials.
use Rattle.std.proofs.Common.{◌≡◌, ℕ, zero, suc, ◌+◌, ◌*◌, ◌/◌, ◌%◌, ◌^◌, ◌<◌, ◌≤◌, w8, Fits, List, [], ◌∷◌, ◌++◌}
use Rattle.std.proofs.Common.{length, get_or, take, get_or-take, bit_xor, refl, sym, ap, ap₂, ◌∙◌, arith}
use Rattle.std.specs.Int.{w128, from_be_bytes}
use Rattle.std.specs.Int.Bits.{xor_assoc, xor_zero_l, xor_zero_r}
use Rattle.std.proofs.Math.Nat.{mul_assoc, add-mul, mul-le-mul_right, mul-lt-mul_of_pos_right}
use Rattle.std.proofs.lemmas.Nat.{xor_block, xor_comm, mod-pow-add, pow_pos, pow-add}
use lib.Lanes.{zip2, Each1}
use Rattle.memberlist_cipher.proofs.Sixteen.{each, sixteen, cons}
use Rattle.memberlist_cipher.specs.Products.{shifted, poly}
use Rattle.memberlist_cipher.proofs.Products.{across, shifted_sum, shifted_add, whole, nothing}

-- ---- sums

high_sum : (a b : ℕ) → bit_xor a b * 2 ^ 120 ≡ bit_xor (a * 2 ^ 120) (b * 2 ^ 120)
high_sum a b =
    let x : a * 2 ^ 120 ≡ a * 2 ^ 120 + 0 = omega arith in
    let y : b * 2 ^ 120 ≡ b * 2 ^ 120 + 0 = omega arith in
    let z : bit_xor a b * 2 ^ 120 + 0 ≡ bit_xor a b * 2 ^ 120 = omega arith in
    sym (ap₂ bit_xor x y ∙ xor_block 120 a b 0 0 (omega arith) (omega arith) ∙ z)

pub poly_sum : (a v b : List ℕ) → length a ≡ length v → poly (zip2 bit_xor a v ++ b) ≡ bit_xor (poly v) (poly (a ++ b))
unfolding poly
poly_sum [] [] b e = sym (xor_zero_l (poly b))
poly_sum [] (y ∷ v) b e = absurd (omega arith)
poly_sum (x ∷ a) [] b e = absurd (omega arith)
poly_sum (x ∷ a) (y ∷ v) b e =
    ap₂ bit_xor (ap (λ (n : ℕ). n * 2 ^ 120) (xor_comm x y) ∙ high_sum y x)
    (ap (shifted 8) (poly_sum a v b (omega arith)) ∙ shifted_sum 8 (poly v) (poly (a ++ b)))
    ∙ across (y * 2 ^ 120) (x * 2 ^ 120) (shifted 8 (poly v)) (shifted 8 (poly (a ++ b)))

pub poly_append : (xs ys : List ℕ) → poly (xs ++ ys) ≡ bit_xor (poly xs) (shifted (8 * length xs) (poly ys))
unfolding poly shifted
poly_append [] ys = sym (xor_zero_l (poly ys))
poly_append (x ∷ xs) ys =
    let n = 8 * length xs in
    let size : n + 8 ≡ 8 * length (x ∷ xs) = omega arith in
    ap (λ (p : ℕ). bit_xor (x * 2 ^ 120) (shifted 8 p)) (poly_append xs ys)
    ∙ ap (bit_xor (x * 2 ^ 120)) (shifted_sum 8 (poly xs) (shifted n (poly ys))
    ∙ ap (bit_xor (shifted 8 (poly xs))) (sym (shifted_add n 8 (poly ys)) ∙ ap (λ (k : ℕ). shifted k (poly ys)) size))
    ∙ sym (xor_assoc (x * 2 ^ 120) (shifted 8 (poly xs)) (shifted (8 * length (x ∷ xs)) (poly ys)))

poly_zero : poly (0 ∷ []) ≡ 0
unfolding poly
poly_zero = ap (bit_xor (0 * 2 ^ 120)) (nothing 8) ∙ xor_zero_l 0

pub poly_end : (xs : List ℕ) → poly (xs ++ 0 ∷ []) ≡ poly xs
poly_end xs = poly_append xs (0 ∷ []) ∙ ap
    (λ (p : ℕ). bit_xor (poly xs) (shifted (8 * length xs) p)) poly_zero
    ∙ ap (bit_xor (poly xs)) (nothing (8 * length xs)) ∙ xor_zero_r (poly xs)

pub poly_push : (xs : List ℕ) → poly (0 ∷ xs) ≡ shifted 8 (poly xs)
unfolding poly
poly_push xs = xor_zero_l (shifted 8 (poly xs))

-- ---- the number of which bytes are the digits

unfoldable pub number : List ℕ → ℕ
number [] = 0
number (b ∷ bs) = b * 2 ^ (8 * length bs) + number bs

pub number_small : (bs : List ℕ) → Each1 (Fits w8) bs → number bs < 2 ^ (8 * length bs)
unfolding number
number_small [] fits = omega arith
number_small (b ∷ bs) fits =
    let n = 8 * length bs in
    let size : 8 * length (b ∷ bs) ≡ 8 + n = omega arith in
    let low = number_small bs fits.1 in
    let byte : b < 256 = fits.0.fits in
    let most : (b + 1) * 2 ^ n ≤ 256 * 2 ^ n = mul-le-mul_right (2 ^ n) (omega arith) in
    let parts : (b + 1) * 2 ^ n ≡ b * 2 ^ n + 1 * 2 ^ n = add-mul b 1 (2 ^ n) in
    let power : 2 ^ (8 * length (b ∷ bs)) ≡ 256 * 2 ^ n = ap (λ (k : ℕ). 2 ^ k) size ∙ pow-add 2 8 n in
    omega (arith, low, most, parts, power)

one_cell : (b q : ℕ) → q < 2 ^ 120 → bit_xor (b * 2 ^ 120) q ≡ b * 2 ^ 120 + q
one_cell b q small =
    let x : b * 2 ^ 120 ≡ b * 2 ^ 120 + 0 = omega arith in
    let y : q ≡ 0 * 2 ^ 120 + q = omega arith in
    ap₂ bit_xor x y ∙ xor_block 120 b 0 0 q (omega arith) small ∙ ap₂ (λ (m n : ℕ). m * 2 ^ 120 + n) (xor_zero_r b) (xor_zero_l q)

pub poly_number : (bs : List ℕ) (j : ℕ) → 8 * length bs + j ≡ 128 → Each1 (Fits w8) bs → poly bs ≡ number bs * 2 ^ j
unfolding poly number
poly_number [] j e fits = omega arith
poly_number (b ∷ bs) j e fits =
    let n = 8 * length bs in
    let m = number bs in
    let moved : m * 2 ^ (j + 8) ≡ m * 2 ^ j * 2 ^ 8 = ap (λ (p : ℕ). m * p) (pow-add 2 j 8) ∙ sym (mul_assoc m (2 ^ j) (2 ^ 8)) in
    let all : n + j ≡ 120 = omega arith in
    let power : 2 ^ n * 2 ^ j ≡ 2 ^ 120 = sym (pow-add 2 n j) ∙ ap (λ (k : ℕ). 2 ^ k) all in
    let room : m * 2 ^ j < 2 ^ n * 2 ^ j = mul-lt-mul_of_pos_right (number_small bs fits.1) (pow_pos j) in
    let small : m * 2 ^ j < 2 ^ 120 = omega (arith, room, power) in
    let rest : shifted 8 (poly bs) ≡ m * 2 ^ j = ap (shifted 8)
    (poly_number bs (j + 8) (omega arith) fits.1 ∙ moved) ∙ whole 8 (m * 2 ^ j) in
    ap (bit_xor (b * 2 ^ 120)) rest
    ∙ one_cell b (m * 2 ^ j) small
    ∙ ap (λ (p : ℕ). b * p + m * 2 ^ j) (sym power)
    ∙ ap (λ (p : ℕ). p + m * 2 ^ j) (sym (mul_assoc b (2 ^ n) (2 ^ j)))
    ∙ sym (add-mul (b * 2 ^ n) m (2 ^ j))

unfoldable pub digits : ℕ → ℕ → List ℕ
digits zero d = []
digits (suc k) d = (d / 2 ^ (8 * k) % 2 ^ 8) ∷ digits k d

pub length-digits : (k d : ℕ) → length (digits k d) ≡ k
unfolding digits
length-digits zero d = refl
length-digits (suc k) d = ap suc (length-digits k d)

pub digits_fit : (k d : ℕ) → Each1 (Fits w8) (digits k d)
unfolding digits
digits_fit zero d = tt
digits_fit (suc k) d = (record { fits = omega arith }, digits_fit k d)

pub number_digits : (k d : ℕ) → number (digits k d) ≡ d % 2 ^ (8 * k)
unfolding number digits
number_digits zero d = omega arith
number_digits (suc k) d =
    let size : 8 + 8 * k ≡ 8 * suc k = omega arith in
    ap₂ (λ (m n : ℕ). d / 2 ^ (8 * k) % 2 ^ 8 * 2 ^ (8 * m) + n) (length-digits k d) (number_digits k d)
    ∙ sym (mod-pow-add d 8 (8 * k)) ∙ ap (λ (n : ℕ). d % 2 ^ n) size

-- ---- blocks

sixteen_bytes : (b0 b1 b2 b3 b4 b5 b6 b7 b8 b9 b10 b11 b12 b13 b14 b15 : ℕ)
    → number (b0 ∷ b1 ∷ b2 ∷ b3 ∷ b4 ∷ b5 ∷ b6 ∷ b7 ∷ b8 ∷ b9 ∷ b10 ∷ b11 ∷ b12 ∷ b13 ∷ b14 ∷ b15 ∷ [])
    ≡ from_be_bytes w128 (b0 ∷ b1 ∷ b2 ∷ b3 ∷ b4 ∷ b5 ∷ b6 ∷ b7 ∷ b8 ∷ b9 ∷ b10 ∷ b11 ∷ b12 ∷ b13 ∷ b14 ∷ b15 ∷ [])
unfolding number
sixteen_bytes b0 b1 b2 b3 b4 b5 b6 b7 b8 b9 b10 b11 b12 b13 b14 b15 = omega arith

pub number_block : (bs : List ℕ) → length bs ≡ 16 → number bs ≡ from_be_bytes w128 bs
number_block bs size =
    ap number (sixteen bs size)
    ∙ sixteen_bytes (get_or bs 0 0) (get_or bs 1 0) (get_or bs 2 0) (get_or bs 3 0) (get_or bs 4 0)
    (get_or bs 5 0) (get_or bs 6 0) (get_or bs 7 0)
    (get_or bs 8 0) (get_or bs 9 0) (get_or bs 10 0) (get_or bs 11 0) (get_or bs 12 0) (get_or bs 13 0) (get_or bs 14 0) (get_or bs 15 0)
    ∙ ap (from_be_bytes w128) (sym (sixteen bs size))

pub poly_block : (bs : List ℕ) → length bs ≡ 16 → Each1 (Fits w8) bs → poly bs ≡ from_be_bytes w128 bs
poly_block bs size fits =
    let one : number bs * 2 ^ 0 ≡ number bs = omega arith in
    poly_number bs 0 (omega arith) fits ∙ one ∙ number_block bs size

-- a block is read from no more than the first sixteen bytes
pub first_block : (bs : List ℕ) → from_be_bytes w128 (take 16 bs) ≡ from_be_bytes w128 bs
first_block bs =
    let at = λ (k : ℕ) (low : k < 16). get_or-take 16 bs k 0 low in
    let same : each (take 16 bs) ≡ each bs =
    cons (at 0 (omega arith)) (cons (at 1 (omega arith)) (cons (at 2 (omega arith)) (cons (at 3 (omega arith))
    (cons (at 4 (omega arith)) (cons (at 5 (omega arith)) (cons (at 6 (omega arith)) (cons (at 7 (omega arith))
    (cons (at 8 (omega arith)) (cons (at 9 (omega arith)) (cons (at 10 (omega arith)) (cons (at 11 (omega arith))
    (cons (at 12 (omega arith)) (cons (at 13 (omega arith)) (cons (at 14 (omega arith)) (cons (at 15 (omega arith)) refl))))))))))))))) in
    ap (from_be_bytes w128) same
