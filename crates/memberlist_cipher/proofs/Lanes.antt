-- Look-ups in tables of sixteen entries, lane by lane.
use Rattle.std.proofs.Common.{◌≡◌, ℕ, zero, suc, ◌+◌, ◌-◌, ◌*◌, ◌/◌, ◌^◌, ◌<◌, ◌≤◌, Bool, true, false, cond, ◌&&◌, ◌||◌}
use Rattle.std.proofs.Common.{T, leb, ltb, w8, Fits, List, [], ◌∷◌, map, length, get_or, replicate, bit_and, bit_xor}
use Rattle.std.proofs.Common.{refl, sym, ap, ap₂, ◌∙◌, inl, inr, subst, arith, eq-zero-or-pos}
use Rattle.std.proofs.lemmas.Bool.{leb-true}
use Rattle.std.proofs.lemmas.List.{get_or_past, length-map}
use Rattle.std.proofs.lemmas.Simd.{swz_l, SwzOk, SwzOk-from_Each1, Each1-weaker, zip2_of_maps, zip2_splat, map-map}
use Rattle.std.proofs.lemmas.Simd.{length-chunk, get_or-chunk}
use Rattle.std.specs.Bool.{IsTrue}
use lib.Lanes.{zip2, Each1, chunk}
use Rattle.memberlist_cipher.specs.Tower.{is_place, sum, quotient, first_place, second_place}
use Rattle.memberlist_cipher.specs.declared.tower.TheConstants.{INVERSES}
use Rattle.memberlist_cipher.proofs.Tables.{both}

-- whether all numbers below n pass
abbrev pub every : (ℕ → Bool) → ℕ → Bool
every p zero = true
every p (suc n) = p n && every p n

pub every_at : (p : ℕ → Bool) (n i : ℕ) → every p n ≡ true → i < n → p i ≡ true
every_at p zero i e within = absurd (omega arith)
every_at p (suc n) i e within = elim (eq-zero-or-pos (n - i)) [
  | inl z ↦ let same : n ≡ i = omega arith in subst (λ (x : ℕ). p x ≡ true) same (both _ _ e).0
  | inr g ↦ every_at p n i (both _ _ e).1 (omega arith)
]

-- ---- places

abbrev pub Places : List ℕ → Type 0
Places js = Each1 (λ (j : ℕ). IsTrue (is_place j)) js

places_of_map : (g : ℕ → ℕ) (v : List ℕ) → Each1 (Fits w8) v → every (λ b. is_place (g b)) 256 ≡ true → Places (map g v)
places_of_map g [] fit e = tt
places_of_map g (x ∷ xs) fit e = (every_at (λ b. is_place (g b)) 256 x e fit.0.fits, places_of_map g xs fit.1 e)

pub places : (g : ℕ → ℕ) (v js : List ℕ) → Each1 (Fits w8) v → js ≡ map g v → every (λ b. is_place (g b)) 256 ≡ true → Places js
places g v js fit is e = subst Places (sym is) (places_of_map g v fit e)

one_lane : (t : List ℕ) (i j : ℕ) (b : Bool) → leb 128 j ≡ b → length t ≡ 16 → i < 16
    → cond b 0 (get_or t (16 * (i / 16) + j) 0) ≡ get_or t j 0
one_lane t i j true e size within = sym (get_or_past t j 0 (omega (arith, leb-true 128 j e)))
one_lane t i j false e size within = let k : 16 * (i / 16) + j ≡ j = omega arith in ap (λ (n : ℕ). get_or t n 0) k

pub looked_up_is : (t js : List ℕ) (i : ℕ) → length t ≡ 16 → i + length js ≤ 16 → swz_l w8 16 t i js ≡ map (λ j. get_or t j 0) js
looked_up_is t [] i size within = refl
looked_up_is t (j ∷ js) i size within =
    ap₂ (λ (x : ℕ) (xs : List ℕ). x ∷ xs) (one_lane t i j (leb 128 j) refl size (omega arith))
    (looked_up_is t js (suc i) size (omega arith))

-- ---- vectors that were computed byte by byte

abbrev pub Block : List ℕ → Type 0
Block v = (length v ≡ 16) × Each1 (Fits w8) v

pub composed : (t : List ℕ) (g : ℕ → ℕ) (v : List ℕ) {js r : List ℕ} → r ≡ map (λ j. get_or t j 0) js
    → js ≡ map g v → r ≡ map (λ b. get_or t (g b) 0) v
composed t g v is from = is ∙ ap (map (λ (j : ℕ). get_or t j 0)) from ∙ map-map (λ (j : ℕ). get_or t j 0) g v

abbrev pub high : ℕ → ℕ
high b = b / 16

abbrev pub low : ℕ → ℕ
low b = bit_and b 15

abbrev pub down : ℕ → ℕ → ℕ
down a b = a / 2 ^ b

pub high_is : (v : List ℕ) → Block v → zip2 down v (replicate 16 4) ≡ map high v
high_is v block = zip2_splat down v 16 4 block.0

pub low_is : (v : List ℕ) → Block v → zip2 bit_and v (replicate 16 15) ≡ map low v
low_is v block = zip2_splat bit_and v 16 15 block.0

is_place_T : (j : ℕ) (b : Bool) → b ≡ true → T b
is_place_T j true e = tt
is_place_T j false e = absurd cc

pub swizzles : (js : List ℕ) → length js ≡ 16 → Places js → SwzOk w8 16 16 0 js
unfolding is_place
swizzles js size all = SwzOk-from_Each1 w8 16 1 16 0 js refl (omega arith)
    (Each1-weaker (λ (j : ℕ). IsTrue (is_place j)) (λ (j : ℕ). T (leb 128 j || ltb j 16))
    (λ j e. is_place_T j _ e) js all)

abbrev pub inverse_of : ℕ → ℕ
inverse_of place = get_or INVERSES place 0

pub sum_is : (v : List ℕ) → Block v → zip2 bit_xor (zip2 down v (replicate 16 4)) (zip2 bit_and v (replicate 16 15)) ≡ map sum v
unfolding sum
sum_is v block = zip2_of_maps bit_xor high low v (high_is v block) (low_is v block)

pub first_places : every (λ b. is_place (first_place b)) 256 ≡ true
unfolding is_place first_place quotient sum
first_places = refl

pub second_places : every (λ b. is_place (second_place b)) 256 ≡ true
unfolding is_place second_place quotient sum
second_places = refl

pub map_bytes : (f g : ℕ → ℕ) (v : List ℕ) → ((b : ℕ) → b < 256 → f b ≡ g b) → Each1 (Fits w8) v → map f v ≡ map g v
map_bytes f g [] same fits = refl
map_bytes f g (x ∷ v) same fits = ap₂ (λ (y : ℕ) (ys : List ℕ). y ∷ ys) (same x fits.0.fits) (map_bytes f g v same fits.1)

-- entries of a table that stands in a list from i on
pub entries_from : (xs : List ℕ) (i : ℕ) (g : ℕ → ℕ) (v js : List ℕ) → Block v → js ≡ map g v
    → ((b : ℕ) → b < 256 → g b < 16) → i + 16 ≤ length xs
    → swz_l w8 16 (chunk i 16 xs) 0 js ≡ map (λ b. get_or xs (i + g b) 0) v
entries_from xs i g v js block is small room =
    let size : length js ≡ 16 = ap length is ∙ length-map v g ∙ block.0 in
    composed (chunk i 16 xs) g v (looked_up_is (chunk i 16 xs) js 0 (length-chunk i 16 xs room) (omega arith)) is
    ∙ map_bytes (λ b. get_or (chunk i 16 xs) (g b) 0) (λ b. get_or xs (i + g b) 0) v
    (λ b hb. get_or-chunk i 16 xs (g b) 0 (small b hb)) block.1
