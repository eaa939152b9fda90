-- The product of two blocks by planes: the sum over the bytes of one block of sums over planes is
-- the sum over planes of sums over bytes.
use Rattle.std.proofs.Common.{◌≡◌, ℕ, zero, suc, ◌+◌, ◌-◌, ◌*◌, ◌/◌, ◌%◌, ◌^◌, ◌<◌, ◌==◌, if◌then◌else◌, Bool, true}
use Rattle.std.proofs.Common.{false, List, [], ◌∷◌, map, length, get_or, w8, Fits, bit_xor, refl, sym, ap, ap₂, ◌∙◌}
use Rattle.std.proofs.Common.{arith}
use Rattle.std.specs.Int.{bit_at, w128, from_be_bytes, to_be_bytes}
use Rattle.std.specs.Int.Bits.{xor_zero_l}
use Rattle.std.specs.List.{range_with_len}
use Rattle.std.proofs.Math.Nat.{mul-add-mod_self_right, mod-eq_of_lt}
use Rattle.std.proofs.Math.Seq.{get_or-append_right}
use Rattle.std.proofs.lemmas.List.{get_or_append_left, length-append}
use Rattle.std.proofs.lemmas.List.FromFn.{length-map-range_with_len, get_or-map-range_with_len}
use Rattle.std.proofs.lemmas.Nat.{xor_lt, xor_shr, xor_mod, div-mul-add}
use lib.Lanes.{Each1}
use Rattle.memberlist_cipher.specs.Gcm.{times_x, steps, block_product}
use Rattle.memberlist_cipher.specs.Products.{shifted, poly, plane_byte, planes_of, planes_block, all_planes, entry, planes_sum}
use Rattle.memberlist_cipher.proofs.Sixteen.{cons}
use Rattle.memberlist_cipher.proofs.Products.{across, shifted_sum, steps_shifted, nothing, more, times_x_is, fallen}
use Rattle.memberlist_cipher.proofs.Polys.{number, number_small, poly_number, digits, digits_fit, length-digits}
use Rattle.memberlist_cipher.proofs.Polys.{number_digits, number_block}

-- ---- the order of summing

rows : (ℕ → ℕ → ℕ) → List ℕ → List ℕ → ℕ
rows g ks [] = 0
rows g ks (b ∷ bs) = bit_xor (poly (map (λ k. g k b) ks)) (shifted 8 (rows g ks bs))

columns : (ℕ → ℕ → ℕ) → List ℕ → List ℕ → ℕ
columns g [] bs = 0
columns g (k ∷ ks) bs = bit_xor (poly (map (g k) bs)) (shifted 8 (columns g ks bs))

columns_first : (g : ℕ → ℕ → ℕ) (ks : List ℕ) (b : ℕ) (bs : List ℕ)
    → columns g ks (b ∷ bs) ≡ bit_xor (poly (map (λ k. g k b) ks)) (shifted 8 (columns g ks bs))
unfolding columns poly
columns_first g [] b bs = sym (ap (bit_xor 0) (nothing 8))
columns_first g (k ∷ ks) b bs =
    let a = g k b * 2 ^ 120 in
    let p = poly (map (g k) bs) in
    let r = poly (map (λ j. g j b) ks) in
    let q = shifted 8 (columns g ks bs) in
    ap (λ (y : ℕ). bit_xor (bit_xor a (shifted 8 p)) (shifted 8 y)) (columns_first g ks b bs)
    ∙ ap (bit_xor (bit_xor a (shifted 8 p))) (shifted_sum 8 r q)
    ∙ across a (shifted 8 p) (shifted 8 r) (shifted 8 q)
    ∙ ap (bit_xor (bit_xor a (shifted 8 r))) (sym (shifted_sum 8 p q))

columns_none : (g : ℕ → ℕ → ℕ) (ks : List ℕ) → columns g ks [] ≡ 0
unfolding columns poly
columns_none g [] = refl
columns_none g (k ∷ ks) = ap (λ (y : ℕ). bit_xor 0 (shifted 8 y)) (columns_none g ks) ∙ ap (bit_xor 0) (nothing 8)

transposed : (g : ℕ → ℕ → ℕ) (ks bs : List ℕ) → columns g ks bs ≡ rows g ks bs
unfolding rows
transposed g ks [] = columns_none g ks
transposed g ks (b ∷ bs) =
    columns_first g ks b bs ∙ ap (λ (y : ℕ). bit_xor (poly (map (λ k. g k b) ks)) (shifted 8 y)) (transposed g ks bs)

sum_is : (planes : List ℕ) (n k : ℕ) (bs : List ℕ) → planes_sum planes n k bs ≡ columns (entry planes) (range_with_len k n) bs
unfolding planes_sum columns
sum_is planes zero k bs = refl
sum_is planes (suc n) k bs = ap (λ (y : ℕ). bit_xor (poly (map (entry planes k) bs)) (shifted 8 y)) (sum_is planes n (k + 1) bs)

-- ---- a product, byte by byte

by_bytes : ℕ → List ℕ → ℕ
by_bytes h [] = 0
by_bytes h (b ∷ bs) = bit_xor (steps 8 b 0 h) (shifted 8 (by_bytes h bs))

product_by_bytes : (h : ℕ) (bs : List ℕ) → Each1 (Fits w8) bs → steps (8 * length bs) (number bs) 0 h ≡ by_bytes h bs
unfolding steps number by_bytes
product_by_bytes h [] fits = refl
product_by_bytes h (b ∷ bs) fits =
    let m = 8 * length bs in
    let size : 8 * length (b ∷ bs) ≡ 8 + m = omega arith in
    let low = number_small bs fits.1 in
    let high_is = div-mul-add b (2 ^ m) (number bs) low in
    let low_is = mul-add-mod_self_right b (2 ^ m) (number bs) ∙ mod-eq_of_lt low in
    ap (λ (k : ℕ). steps k (b * 2 ^ m + number bs) 0 h) size
    ∙ more 8 m (b * 2 ^ m + number bs) h
    ∙ ap₂ (λ (p q : ℕ). bit_xor (steps 8 p 0 h) (shifted 8 (steps m q 0 h))) high_is low_is
    ∙ ap (λ (y : ℕ). bit_xor (steps 8 b 0 h) (shifted 8 y)) (product_by_bytes h bs fits.1)

-- ---- what a plane has

byte_product : (b h : ℕ) → bit_xor (steps 4 (b / 16) 0 h) (steps 4 (b % 16) 0 (shifted 4 h)) ≡ steps 8 b 0 h
byte_product b h =
    sym (more 4 4 b h
    ∙ ap (bit_xor (steps 4 (b / 16) 0 h))
    (sym (steps_shifted 4 4 (b % 16) 0 h) ∙ ap
    (λ (y : ℕ). steps 4 (b % 16) y (shifted 4 h)) (nothing 4)))

plane_at : (v k d : ℕ) → k < 16 → d < 16 → get_or (planes_of v) (16 * k + d) 0 ≡ steps 4 d 0 v / 2 ^ (120 - 8 * k) % 256
unfolding planes_of plane_byte
plane_at v k d hk hd =
    let i = 16 * k + d in
    let low : i % 16 ≡ d = omega arith in
    let high : i / 16 ≡ k = omega arith in
    get_or-map-range_with_len (plane_byte v) 0 256 i i 0 (omega arith) (omega arith)
    ∙ ap₂ (λ (p q : ℕ). steps 4 p 0 v / 2 ^ (120 - 8 * q) % 256) low high

length-planes : (v : ℕ) → length (planes_of v) ≡ 256
unfolding planes_of
length-planes v = length-map-range_with_len (plane_byte v) 0 256

pub length-all_planes : (h : ℕ) → length (all_planes h) ≡ 512
unfolding all_planes
length-all_planes h = length-append (planes_of h) (planes_of (shifted 4 h)) ∙ ap₂
    (λ (m n : ℕ). m + n) (length-planes h) (length-planes (shifted 4 h))

first_plane : (h k d : ℕ) → k < 16 → d < 16 → get_or (all_planes h) (16 * k + d) 0 ≡ steps 4 d 0 h / 2 ^ (120 - 8 * k) % 256
unfolding all_planes
first_plane h k d hk hd =
    get_or_append_left (planes_of h) (planes_of (shifted 4 h)) 0 (16 * k + d) (omega (arith, length-planes h)) ∙ plane_at h k d hk hd

second_plane : (h k d : ℕ) → k < 16 → d < 16
    → get_or (all_planes h) (256 + 16 * k + d) 0 ≡ steps 4 d 0 (shifted 4 h) / 2 ^ (120 - 8 * k) % 256
unfolding all_planes
second_plane h k d hk hd =
    let i : 256 + 16 * k + d - length (planes_of h) ≡ 16 * k + d = omega (arith, length-planes h) in
    get_or-append_right (planes_of h) (planes_of (shifted 4 h)) (256 + 16 * k + d) 0 (omega (arith, length-planes h))
    ∙ ap (λ (n : ℕ). get_or (planes_of (shifted 4 h)) n 0) i ∙ plane_at (shifted 4 h) k d hk hd

entry_is : (h k b : ℕ) → k < 16 → b < 256 → entry (all_planes h) k b ≡ steps 8 b 0 h / 2 ^ (120 - 8 * k) % 256
unfolding entry
entry_is h k b hk hb =
    let p = steps 4 (b / 16) 0 h in
    let q = steps 4 (b % 16) 0 (shifted 4 h) in
    let m = 120 - 8 * k in
    ap₂ bit_xor (first_plane h k (b / 16) hk (omega arith)) (second_plane h k (b % 16) hk (omega arith))
    ∙ sym (xor_mod (p / 2 ^ m) (q / 2 ^ m) 8)
    ∙ ap (λ (n : ℕ). n % 2 ^ 8) (sym (xor_shr p q m) ∙ ap (λ (n : ℕ). n / 2 ^ m) (byte_product b h))

-- ---- blocks

fallen_small : (b : ℕ) → fallen b < 2 ^ 128
unfolding fallen
fallen_small b = either (b == 1) where
  either : (c : Bool) → (if c then 0xe1 * 2 ^ 120 else 0) < 2 ^ 128
  either true = omega arith
  either false = omega arith

times_x_small : (v : ℕ) → v < 2 ^ 128 → times_x v < 2 ^ 128
times_x_small v small =
    let half : bit_xor (v / 2) (fallen (v % 2)) < 2 ^ 128 = xor_lt 128 (v / 2) (fallen (v % 2)) (omega arith) (fallen_small (v % 2)) in
    omega (arith, half, times_x_is v)

picked_small : (c : Bool) (z v : ℕ) → z < 2 ^ 128 → v < 2 ^ 128 → (if c then bit_xor z v else z) < 2 ^ 128
picked_small true z v hz hv = xor_lt 128 z v hz hv
picked_small false z v hz hv = hz

steps_small : (n x z v : ℕ) → z < 2 ^ 128 → v < 2 ^ 128 → steps n x z v < 2 ^ 128
unfolding steps
steps_small zero x z v hz hv = hz
steps_small (suc n) x z v hz hv =
    steps_small n x (if bit_at x n == 1 then bit_xor z v else z) (times_x v) (picked_small (bit_at x n == 1) z v hz hv) (times_x_small v hv)

sixteen_digits : (d : ℕ) → d < 2 ^ 128 → number (digits 16 d) ≡ d
sixteen_digits d small = number_digits 16 d ∙ mod-eq_of_lt small

poly_digits : (d : ℕ) → d < 2 ^ 128 → poly (digits 16 d) ≡ d
poly_digits d small =
    let one : number (digits 16 d) * 2 ^ 0 ≡ number (digits 16 d) = omega arith in
    let size : 8 * length (digits 16 d) + 0 ≡ 128 = omega (arith, length-digits 16 d) in
    poly_number (digits 16 d) 0 size (digits_fit 16 d) ∙ one ∙ sixteen_digits d small

entries_are : (h b : ℕ) → b < 256 → map (λ k. entry (all_planes h) k b) (range_with_len 0 16) ≡ digits 16 (steps 8 b 0 h)
unfolding digits
entries_are h b hb =
    let e = λ (k : ℕ) (hk : k < 16). entry_is h k b hk hb in
    cons (e 0 (omega arith)) (cons (e 1 (omega arith)) (cons (e 2 (omega arith)) (cons (e 3 (omega arith))
    (cons (e 4 (omega arith)) (cons (e 5 (omega arith)) (cons (e 6 (omega arith)) (cons (e 7 (omega arith))
    (cons (e 8 (omega arith)) (cons (e 9 (omega arith)) (cons (e 10 (omega arith)) (cons (e 11 (omega arith))
    (cons (e 12 (omega arith)) (cons (e 13 (omega arith)) (cons (e 14 (omega arith)) (cons (e 15 (omega arith)) refl)))))))))))))))

rows_are : (h : ℕ) (bs : List ℕ) → h < 2 ^ 128 → Each1 (Fits w8) bs → rows (entry (all_planes h)) (range_with_len 0 16) bs ≡ by_bytes h bs
unfolding rows by_bytes
rows_are h [] small fits = refl
rows_are h (b ∷ bs) small fits =
    ap₂ (λ (p q : ℕ). bit_xor p (shifted 8 q))
    (ap poly (entries_are h b fits.0.fits)
    ∙ poly_digits (steps 8 b 0 h) (steps_small 8 b 0 h (omega arith) small))
    (rows_are h bs small fits.1)

block_digits : (d : ℕ) → to_be_bytes w128 d ≡ digits 16 d
unfolding digits
block_digits d =
    let last : d % 256 ≡ d / 2 ^ 0 % 256 = omega arith in
    cons refl (cons refl (cons refl (cons refl (cons refl (cons refl (cons refl (cons refl
    (cons refl (cons refl (cons refl (cons refl (cons refl (cons refl (cons refl (cons last refl)))))))))))))))

pub product_is : (h x : ℕ) → h < 2 ^ 128 → x < 2 ^ 128 → planes_sum (all_planes h) 16 0 (to_be_bytes w128 x) ≡ block_product x h
unfolding block_product
product_is h x hh hx =
    let bs = digits 16 x in
    let size : 8 * length bs ≡ 128 = omega (arith, length-digits 16 x) in
    ap (planes_sum (all_planes h) 16 0) (block_digits x)
    ∙ sum_is (all_planes h) 16 0 bs
    ∙ transposed (entry (all_planes h)) (range_with_len 0 16) bs
    ∙ rows_are h bs hh (digits_fit 16 x)
    ∙ sym (product_by_bytes h bs (digits_fit 16 x))
    ∙ ap₂ (λ (k n : ℕ). steps k n 0 h) size (sixteen_digits x hx)

-- the four bits 1000 mean 1
one : (v : ℕ) → steps 4 8 0 v ≡ v
unfolding steps
one v = xor_zero_l v

column_is : (h : ℕ) → ((k : ℕ) → k < 16 → get_or (all_planes h) (16 * k + 8) 0 ≡ h / 2 ^ (120 - 8 * k) % 256)
    → map (λ k. get_or (all_planes h) (16 * k + 8) 0) (range_with_len 0 16) ≡ digits 16 h
unfolding digits
column_is h e =
    cons (e 0 (omega arith)) (cons (e 1 (omega arith)) (cons (e 2 (omega arith)) (cons (e 3 (omega arith))
    (cons (e 4 (omega arith)) (cons (e 5 (omega arith)) (cons (e 6 (omega arith)) (cons (e 7 (omega arith))
    (cons (e 8 (omega arith)) (cons (e 9 (omega arith)) (cons (e 10 (omega arith)) (cons (e 11 (omega arith))
    (cons (e 12 (omega arith)) (cons (e 13 (omega arith)) (cons (e 14 (omega arith)) (cons (e 15 (omega arith)) refl)))))))))))))))

pub planes_block_is : (h : ℕ) → h < 2 ^ 128 → planes_block (all_planes h) ≡ h
unfolding planes_block
planes_block_is h small =
    let e = λ (k : ℕ) (hk : k < 16). first_plane h k 8 hk (omega arith) ∙ ap (λ (n : ℕ). n / 2 ^ (120 - 8 * k) % 256) (one h) in
    ap (from_be_bytes w128) (column_is h e) ∙ sym (number_block (digits 16 h) (length-digits 16 h)) ∙ sixteen_digits h small
