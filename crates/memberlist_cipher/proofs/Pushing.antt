-- One step of a product: both parts times x ^ 8, and one more plane.
use Rattle.std.proofs.Common.{◌≡◌, ℕ, zero, suc, ◌+◌, ◌-◌, ◌*◌, ◌<◌, ◌≤◌, List, [], ◌∷◌, ◌++◌, map, length, get_or}
use Rattle.std.proofs.Common.{take, get_or-take, replicate, bit_xor, refl, sym, ap, ap₂, ◌∙◌, subst, arith}
use Rattle.std.proofs.Common.{append_assoc}
use Rattle.std.specs.Int.Bits.{xor_zero_r}
use lib.Lanes.{zip2, pick_l}
use Rattle.memberlist_cipher.specs.Gcm.{times_x}
use Rattle.memberlist_cipher.specs.Products.{shifted, poly, entry, planes_sum}
use Rattle.memberlist_cipher.specs.declared.ghash.TheConstants.{PUSHED}
use Rattle.memberlist_cipher.proofs.Sixteen.{each, sixteen}
use Rattle.memberlist_cipher.proofs.Polys.{poly_sum, poly_append, poly_end, poly_push}
use Rattle.memberlist_cipher.proofs.Products.{nothing}

abbrev pub pushed : List ℕ → List ℕ → List ℕ
pushed xs ys = pick_l 0 (xs ++ ys) PUSHED

pub pushed_is : (xs ys : List ℕ) → length xs ≡ 16 → length ys ≡ 16 → pushed xs ys ≡ get_or xs 15 0 ∷ take 15 ys
pushed_is xs ys sx sy =
    subst (λ (zs : List ℕ). pushed zs ys ≡ get_or zs 15 0 ∷ take 15 ys) (sym (sixteen xs sx))
    (subst (λ (zs : List ℕ). pushed (each xs) zs ≡ get_or (each xs) 15 0 ∷ take 15 zs) (sym (sixteen ys sy)) refl)

joined : (xs ys : List ℕ) → length xs ≡ 16 → (0 ∷ take 15 xs) ++ (get_or xs 15 0 ∷ ys) ≡ 0 ∷ (xs ++ ys)
joined xs ys sx = subst (λ (zs : List ℕ). (0 ∷ take 15 zs) ++ (get_or zs 15 0 ∷ ys) ≡ 0 ∷ (zs ++ ys)) (sym (sixteen xs sx)) refl

cut : (xs : List ℕ) → length xs ≡ 16 → take 15 xs ++ get_or xs 15 0 ∷ [] ≡ xs
cut xs sx = subst (λ (zs : List ℕ). take 15 zs ++ get_or zs 15 0 ∷ [] ≡ zs) (sym (sixteen xs sx)) refl

pub step_is : (below above v : List ℕ) → length below ≡ 16 → length above ≡ 16 → length v ≡ 16 → get_or above 15 0 ≡ 0
    → poly (zip2 bit_xor (pushed (replicate 16 0) below) v ++ pushed below above) ≡ bit_xor (poly v) (shifted 8 (poly (below ++ above)))
step_is below above v sb sa sv last =
    let front = take 15 above in
    let size : length (0 ∷ take 15 below) ≡ length v = ap length (sym (pushed_is (replicate 16 0) below refl sb)) ∙ sym sv in
    let whole : (below ++ front) ++ 0 ∷ [] ≡ below ++ above =
    append_assoc below front (0 ∷ []) ∙ ap (λ (ys : List ℕ). below ++ ys) (ap (λ (n : ℕ). front ++ n ∷ []) (sym last) ∙ cut above sa) in
    ap₂ (λ (a u : List ℕ). poly (zip2 bit_xor a v ++ u)) (pushed_is (replicate 16 0) below refl sb) (pushed_is below above sb sa)
    ∙ poly_sum (0 ∷ take 15 below) v (get_or below 15 0 ∷ front) size
    ∙ ap (bit_xor (poly v)) (ap poly (joined below front sb)
    ∙ poly_push (below ++ front)
    ∙ ap (shifted 8) (sym (poly_end (below ++ front)) ∙ ap poly whole))

zeros : poly (replicate 16 0) ≡ 0
unfolding poly shifted times_x
zeros = refl

pub begin_is : (v : List ℕ) → poly (v ++ replicate 16 0) ≡ poly v
begin_is v =
    poly_append v (replicate 16 0)
    ∙ ap (λ (p : ℕ). bit_xor (poly v) (shifted (8 * length v) p)) zeros
    ∙ ap (bit_xor (poly v)) (nothing (8 * length v))
    ∙ xor_zero_r (poly v)

pub sum_first : (planes bs : List ℕ) → planes_sum planes 1 15 bs ≡ poly (map (entry planes 15) bs)
unfolding planes_sum
sum_first planes bs = ap (bit_xor (poly (map (entry planes 15) bs))) (nothing 8) ∙ xor_zero_r (poly (map (entry planes 15) bs))

sum_suc : (planes bs : List ℕ) (n k : ℕ)
    → planes_sum planes (suc n) k bs ≡ bit_xor (poly (map (entry planes k) bs))
    (shifted 8 (planes_sum planes n (k + 1) bs))
unfolding planes_sum
sum_suc planes bs n k = refl

pub sum_next : (planes bs : List ℕ) (n : ℕ) → n ≤ 15
    → bit_xor (poly (map (entry planes (15 - n)) bs))
    (shifted 8 (planes_sum planes n (16 - n) bs)) ≡ planes_sum planes (n + 1) (16 - (n + 1)) bs
sum_next planes bs n few =
    let more : suc n ≡ n + 1 = omega arith in
    let from : 15 - n ≡ 16 - (n + 1) = omega arith in
    let back : 16 - n ≡ 15 - n + 1 = omega arith in
    ap (λ (k : ℕ). bit_xor (poly (map (entry planes (15 - n)) bs)) (shifted 8 (planes_sum planes n k bs))) back
    ∙ sym (sum_suc planes bs n (15 - n))
    ∙ ap₂ (λ (m k : ℕ). planes_sum planes m k bs) more from

pub zeros_pushed : (below above : List ℕ) (n : ℕ) → length below ≡ 16 → length above ≡ 16 → 1 ≤ n
    → ((j : ℕ) → n ≤ j + 1 → j < 16 → get_or above j 0 ≡ 0)
    → (j : ℕ) → n + 1 ≤ j + 1 → j < 16 → get_or (pushed below above) j 0 ≡ 0
zeros_pushed below above n sb sa some zero_above zero past within = absurd (omega arith)
zeros_pushed below above n sb sa some zero_above (suc j) past within =
    ap (λ (l : List ℕ). get_or l (suc j) 0) (pushed_is below above sb sa)
    ∙ get_or-take 15 above j 0 (omega arith)
    ∙ zero_above j (omega arith) (omega arith)
