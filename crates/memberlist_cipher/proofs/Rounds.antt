-- A round on a state in the tower's basis.
use Rattle.std.proofs.Common.{◌≡◌, ℕ, zero, suc, ◌^◌, ◌<◌, true, ◌&&◌, eqb, nat_lt, w8, Fits, List, [], ◌∷◌, ◌++◌, map}
use Rattle.std.proofs.Common.{length, get_or, replicate, bit_xor, refl, sym, ap, ap₂, ◌∙◌, subst, arith}
use Rattle.std.specs.Int.Bits.{xor_assoc}
use Rattle.std.proofs.lemmas.Bool.{eqb-true, ltb-true}
use Rattle.std.proofs.lemmas.Nat.{xor_comm, xor_of_8}
use Rattle.std.proofs.lemmas.List.{length-map}
use Rattle.std.proofs.lemmas.Simd.{map-map, zip2_splat}
use lib.Lanes.{zip2, pick_l, Each1}
use Rattle.memberlist_cipher.specs.Field.{carryless, modulo, product, inverse_up_to, inverse, affine_bit, affine, sub}
use Rattle.memberlist_cipher.specs.Block.{plus_bytes, mix, mix_columns, shift_rows, scrambled}
use Rattle.memberlist_cipher.specs.Tower.{tower, sum, quotient, first_place, second_place, looked_up, plain, once, twice}
use Rattle.memberlist_cipher.specs.States.{IsState}
use Rattle.memberlist_cipher.specs.declared.block.TheConstants.{ROWS}
use Rattle.memberlist_cipher.proofs.Tables.{both}
use Rattle.memberlist_cipher.proofs.Sixteen.{each, sixteen, cons}
use Rattle.memberlist_cipher.proofs.Lanes.{every, every_at}

-- ---- what the tables have, for each byte

agree_plain : every (λ a. eqb (plain (tower a)) (bit_xor (sub a) 0x63)) 256 ≡ true
unfolding plain looked_up first_place second_place sum quotient tower sub affine affine_bit inverse inverse_up_to product carryless modulo
agree_plain = refl

agree_once : every (λ a. eqb (once (tower a)) (bit_xor (tower (sub a)) (tower 0x63))) 256 ≡ true
unfolding once looked_up first_place second_place sum quotient tower sub affine affine_bit inverse inverse_up_to product carryless modulo
agree_once = refl

agree_twice : every (λ a. eqb (twice (tower a)) (bit_xor (tower (product 2 (sub a))) (tower (product 2 0x63)))) 256 ≡ true
unfolding twice looked_up first_place second_place sum quotient tower sub affine affine_bit inverse inverse_up_to product carryless modulo
agree_twice = refl

agree_thrice : every (λ a. eqb (bit_xor (once (tower a)) (twice (tower a)))
    (bit_xor (tower (product 3 (sub a))) (tower (product 3 0x63)))) 256 ≡ true
unfolding once twice looked_up first_place second_place sum quotient tower sub affine affine_bit inverse
    inverse_up_to product carryless modulo
agree_thrice = refl

all_small : every (λ a. nat_lt (sub a) 256 && (nat_lt (product 2 (sub a)) 256 && nat_lt (product 3 (sub a)) 256)) 256 ≡ true
unfolding sub affine affine_bit inverse inverse_up_to product carryless modulo
all_small = refl

all_linear : every (λ a. every (λ b. eqb (tower (bit_xor a b)) (bit_xor (tower a) (tower b))) 256) 256 ≡ true
unfolding tower
all_linear = refl

pub record Small (s : ℕ) : Type 0 where
  pub one : s < 2 ^ 8
  pub two : product 2 s < 2 ^ 8
  pub three : product 3 s < 2 ^ 8

pub small : (a : ℕ) → a < 256 → Small (sub a)
small a within =
    let e = every_at (λ a. nat_lt (sub a) 256
    && (nat_lt (product 2 (sub a)) 256 && nat_lt (product 3 (sub a)) 256)) 256 a all_small within in
    let more = (both (nat_lt (sub a) 256) _ e).1 in
    record {
      one = ltb-true (sub a) 256 (both (nat_lt (sub a) 256) _ e).0;
      two = ltb-true (product 2 (sub a)) 256 (both (nat_lt (product 2 (sub a)) 256) _ more).0;
      three = ltb-true (product 3 (sub a)) 256 (both (nat_lt (product 2 (sub a)) 256) _ more).1;
    }

pub tower_sum : (a b : ℕ) → a < 256 → b < 256 → tower (bit_xor a b) ≡ bit_xor (tower a) (tower b)
tower_sum a b ha hb =
    eqb-true _ _ (every_at (λ b. eqb (tower (bit_xor a b)) (bit_xor (tower a) (tower b))) 256 b
    (every_at (λ a. every (λ b. eqb (tower (bit_xor a b)) (bit_xor (tower a) (tower b))) 256) 256 a all_linear ha) hb)

-- ---- one byte of a mixed column

pub across : (p q r s : ℕ) → bit_xor (bit_xor p q) (bit_xor r s) ≡ bit_xor (bit_xor p r) (bit_xor q s)
across p q r s =
    xor_assoc p q (bit_xor r s)
    ∙ ap (bit_xor p) (sym (xor_assoc q r s) ∙ ap (λ (y : ℕ). bit_xor y s) (xor_comm q r) ∙ xor_assoc r q s)
    ∙ sym (xor_assoc p r (bit_xor q s))

four_towers : (x y z w : ℕ) → x < 2 ^ 8 → y < 2 ^ 8 → z < 2 ^ 8 → w < 2 ^ 8
    → bit_xor (bit_xor (bit_xor (tower x) (tower y)) (tower z)) (tower w) ≡ tower (bit_xor (bit_xor (bit_xor x y) z) w)
four_towers x y z w hx hy hz hw =
    let xy = xor_of_8 x y hx hy in
    let xyz = xor_of_8 (bit_xor x y) z xy hz in
    sym (tower_sum (bit_xor (bit_xor x y) z) w xyz hw
    ∙ ap (λ (n : ℕ). bit_xor n (tower w)) (tower_sum (bit_xor x y) z xy hz ∙ ap (λ (n : ℕ). bit_xor n (tower z)) (tower_sum x y hx hy)))

constants : bit_xor (bit_xor (bit_xor (tower (product 2 0x63)) (tower (product 3 0x63))) (tower 0x63)) (tower 0x63) ≡ tower 0x63
unfolding tower product carryless modulo
constants = refl

mixed_byte : (a b c d : ℕ) → a < 256 → b < 256 → c < 256 → d < 256
    → bit_xor (bit_xor (bit_xor (twice (tower a)) (bit_xor (once (tower b)) (twice (tower b)))) (once (tower c))) (once (tower d))
    ≡ tower (bit_xor (mix (sub a) (sub b) (sub c) (sub d)) 0x63)
unfolding mix
mixed_byte a b c d ha hb hc hd =
    let sa = small a ha in
    let sb = small b hb in
    let sc = small c hc in
    let sd = small d hd in
    let p = eqb-true _ _ (every_at (λ a. eqb (twice (tower a))
    (bit_xor (tower (product 2 (sub a))) (tower (product 2 0x63)))) 256 a agree_twice ha) in
    let q = eqb-true _ _ (every_at (λ a. eqb (bit_xor (once (tower a)) (twice (tower a)))
    (bit_xor (tower (product 3 (sub a))) (tower (product 3 0x63)))) 256 b agree_thrice hb) in
    let r = eqb-true _ _ (every_at (λ a. eqb (once (tower a)) (bit_xor (tower (sub a)) (tower 0x63))) 256 c agree_once hc) in
    let s = eqb-true _ _ (every_at (λ a. eqb (once (tower a)) (bit_xor (tower (sub a)) (tower 0x63))) 256 d agree_once hd) in
    let x = product 2 (sub a) in
    let y = product 3 (sub b) in
    let z = sub c in
    let w = sub d in
    let xy = xor_of_8 x y sa.two sb.three in
    let xyz = xor_of_8 (bit_xor x y) z xy sc.one in
    ap₂ bit_xor (ap₂ bit_xor (ap₂ bit_xor p q ∙ across (tower x) (tower (product 2 0x63)) (tower y) (tower (product 3 0x63))) r
    ∙ across (bit_xor (tower x) (tower y)) (bit_xor (tower (product 2 0x63)) (tower (product 3 0x63))) (tower z) (tower 0x63)) s
    ∙ across (bit_xor (bit_xor (tower x) (tower y)) (tower z))
    (bit_xor (bit_xor (tower (product 2 0x63)) (tower (product 3 0x63))) (tower 0x63)) (tower w)
    (tower 0x63)
    ∙ ap₂ bit_xor (four_towers x y z w sa.two sb.three sc.one sd.one) constants
    ∙ sym (tower_sum (bit_xor (bit_xor (bit_xor x y) z) w) 0x63 (xor_of_8 (bit_xor (bit_xor x y) z) w xyz sd.one) (omega arith))

-- ---- sixteen bytes

pub plus_is : (xs ys : List ℕ) → zip2 bit_xor xs ys ≡ plus_bytes xs ys
unfolding plus_bytes
plus_is [] ys = refl
plus_is (x ∷ xs) [] = refl
plus_is (x ∷ xs) (y ∷ ys) = ap (λ (zs : List ℕ). bit_xor x y ∷ zs) (plus_is xs ys)

abbrev pub moved : List ℕ → List ℕ → List ℕ
moved s places = pick_l 0 (s ++ s) places

abbrev pub mixed_lanes : List ℕ → List ℕ → List ℕ
mixed_lanes one two =
    zip2 bit_xor (zip2 bit_xor (zip2 bit_xor two
    (moved (zip2 bit_xor one two) (1 ∷ 2 ∷ 3 ∷ 0 ∷ 5 ∷ 6 ∷ 7 ∷ 4 ∷ 9 ∷ 10 ∷ 11 ∷ 8 ∷ 13 ∷ 14 ∷ 15 ∷ 12 ∷ [])))
    (moved one (2 ∷ 3 ∷ 0 ∷ 1 ∷ 6 ∷ 7 ∷ 4 ∷ 5 ∷ 10 ∷ 11 ∷ 8 ∷ 9 ∷ 14 ∷ 15 ∷ 12 ∷ 13 ∷ [])))
    (moved one (3 ∷ 0 ∷ 1 ∷ 2 ∷ 7 ∷ 4 ∷ 5 ∷ 6 ∷ 11 ∷ 8 ∷ 9 ∷ 10 ∷ 15 ∷ 12 ∷ 13 ∷ 14 ∷ []))

pub lane_fits : (v : List ℕ) (i : ℕ) → Each1 (Fits w8) v → get_or v i 0 < 256
lane_fits [] i h = omega arith
lane_fits (x ∷ xs) zero h = h.0.fits
lane_fits (x ∷ xs) (suc i) h = lane_fits xs i h.1

abbrev Mixes : List ℕ → Type 0
Mixes s =
    mixed_lanes (map once (moved (map tower s) ROWS)) (map twice (moved (map tower s) ROWS))
    ≡ map tower (plus_bytes (mix_columns (scrambled s)) (replicate 16 0x63))

each_mixes : (s : List ℕ) → ((i : ℕ) → get_or s i 0 < 256) → Mixes (each s)
unfolding mix_columns scrambled shift_rows plus_bytes
each_mixes s fits =
    let byte = λ (i j k l : ℕ). mixed_byte (get_or s i 0) (get_or s j 0) (get_or s k 0) (get_or s l 0)
    (fits i) (fits j) (fits k) (fits l) in
    cons (byte 0 5 10 15) (cons (byte 5 10 15 0) (cons (byte 10 15 0 5) (cons (byte 15 0 5 10)
    (cons (byte 4 9 14 3) (cons (byte 9 14 3 4) (cons (byte 14 3 4 9) (cons (byte 3 4 9 14)
    (cons (byte 8 13 2 7) (cons (byte 13 2 7 8) (cons (byte 2 7 8 13) (cons (byte 7 8 13 2)
    (cons (byte 12 1 6 11) (cons (byte 1 6 11 12) (cons (byte 6 11 12 1) (cons (byte 11 12 1 6) refl)))))))))))))))

pub mixed_is : (s one two : List ℕ) → IsState s → one ≡ map once (moved (map tower s) ROWS) → two ≡ map twice (moved (map tower s) ROWS)
    → mixed_lanes one two ≡ map tower (plus_bytes (mix_columns (scrambled s)) (replicate 16 0x63))
mixed_is s one two state p q =
    ap₂ mixed_lanes p q ∙ subst Mixes (sym (sixteen s state.size)) (each_mixes s (λ i. lane_fits s i state.fits))

plain_byte : (a : ℕ) → a < 256 → plain (tower a) ≡ bit_xor (sub a) 0x63
plain_byte a within = eqb-true _ _ (every_at (λ a. eqb (plain (tower a)) (bit_xor (sub a) 0x63)) 256 a agree_plain within)

abbrev Scrambles : List ℕ → Type 0
Scrambles s = map plain (moved (map tower s) ROWS) ≡ plus_bytes (scrambled s) (replicate 16 0x63)

each_scrambles : (s : List ℕ) → ((i : ℕ) → get_or s i 0 < 256) → Scrambles (each s)
unfolding scrambled shift_rows plus_bytes
each_scrambles s fits =
    let byte = λ (i : ℕ). plain_byte (get_or s i 0) (fits i) in
    cons (byte 0) (cons (byte 5) (cons (byte 10) (cons (byte 15) (cons (byte 4) (cons (byte 9) (cons (byte 14) (cons (byte 3)
    (cons (byte 8) (cons (byte 13) (cons (byte 2)
    (cons (byte 7) (cons (byte 12) (cons (byte 1) (cons (byte 6) (cons (byte 11) refl)))))))))))))))

pub scrambled_is : (s : List ℕ) → IsState s → map plain (moved (map tower s) ROWS) ≡ plus_bytes (scrambled s) (replicate 16 0x63)
scrambled_is s state = subst Scrambles (sym (sixteen s state.size)) (each_scrambles s (λ i. lane_fits s i state.fits))

-- ---- the S-box alone

agree_sub : every (λ a. eqb (bit_xor (plain (tower a)) 0x63) (sub a)) 256 ≡ true
unfolding plain looked_up first_place second_place sum quotient tower sub affine affine_bit inverse inverse_up_to product carryless modulo
agree_sub = refl

same_map : (f g : ℕ → ℕ) (v : List ℕ) → every (λ a. eqb (f a) (g a)) 256 ≡ true → Each1 (Fits w8) v → map f v ≡ map g v
same_map f g [] e fits = refl
same_map f g (x ∷ v) e fits = cons (eqb-true _ _ (every_at (λ a. eqb (f a) (g a)) 256 x e fits.0.fits)) (same_map f g v e fits.1)

pub sub_is : (v : List ℕ) → length v ≡ 16 → Each1 (Fits w8) v → zip2 bit_xor (map plain (map tower v)) (replicate 16 0x63) ≡ map sub v
sub_is v size fits =
    ap (λ (l : List ℕ). zip2 bit_xor l (replicate 16 0x63)) (map-map plain tower v)
    ∙ zip2_splat bit_xor (map (λ a. plain (tower a)) v) 16 0x63 (length-map v (λ a. plain (tower a)) ∙ size)
    ∙ map-map (λ b. bit_xor b 0x63) (λ a. plain (tower a)) v
    ∙ same_map (λ a. bit_xor (plain (tower a)) 0x63) sub v agree_sub fits
