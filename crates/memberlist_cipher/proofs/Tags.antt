-- Tags that are compared by all their bytes at once.
use Rattle.std.proofs.Common.{◌≡◌, ◌≢◌, ℕ, ◌%◌, ◌^◌, Bool, true, false, not, cond, eqb, nat_eq, List, [], ◌∷◌, map}
use Rattle.std.proofs.Common.{length, take, refl, sym, ap, ap₂, ◌∙◌, subst, arith, eqb-true, eq-eqb}
use Rattle.std.specs.Prelude.{MatchBool}
use Rattle.std.proofs.lemmas.List.{length-map, take_all}
use Rattle.std.proofs.lemmas.Simd.{length-zip2, mask_l-mod}
use lib.Lanes.{zip2, mask_l, top}

differs : ℕ → ℕ → ℕ
differs a b = cond (not (eqb a b)) 255 0

abbrev mask : List ℕ → List ℕ → ℕ
mask xs ys = mask_l (map (top 7) (zip2 differs xs ys))

-- what a lane adds to the mask
bit : ℕ → ℕ → ℕ
bit x y = cond (top 7 (differs x y)) 1 0

flag : (x y : ℕ) → bit x y ≡ 0 → x ≡ y
unfolding bit differs
flag x y = go (eqb x y) refl
  where
    go : (t : Bool) → eqb x y ≡ t → ◌≡◌ {A = ℕ} (cond (top 7 (cond (not t) 255 0)) 1 0) 0 → x ≡ y
    go true e z = eqb-true x y e
    go false e z = absurd (omega arith)

none_differ : (xs ys : List ℕ) → length xs ≡ length ys → mask xs ys ≡ 0 → xs ≡ ys
unfolding bit
none_differ [] [] size none = refl
none_differ [] (y ∷ ys) size none = absurd (omega arith)
none_differ (x ∷ xs) [] size none = absurd (omega arith)
none_differ (x ∷ xs) (y ∷ ys) size none =
    ap₂ (λ (z : ℕ) (zs : List ℕ). z ∷ zs) (flag x y (omega arith)) (none_differ xs ys (omega arith) (omega arith))

same_flag : (x : ℕ) → bit x x ≡ 0
unfolding bit differs
same_flag x = ap (λ (t : Bool). cond {A = ℕ} (top 7 (cond (not t) 255 0)) 1 0) (eq-eqb x x refl)

same_mask : (xs : List ℕ) → mask xs xs ≡ 0
unfolding bit
same_mask [] = refl
same_mask (x ∷ xs) = omega (arith, same_flag x, same_mask xs)

compared : (xs ys : List ℕ) → length xs ≡ 16 → length ys ≡ 16 → MatchBool (nat_eq (mask xs ys % 2 ^ 64) 0) (xs ≡ ys) (xs ≢ ys)
compared xs ys sx sy = go (nat_eq (mask xs ys % 2 ^ 64) 0) refl
  where
    bits : mask xs ys % 2 ^ 64 ≡ mask xs ys
    bits = mask_l-mod (map (top 7) (zip2 differs xs ys)) 64
        (omega (arith, length-map (zip2 differs xs ys) (top 7), length-zip2 differs xs ys (sx ∙ sym sy)))

    go : (t : Bool) → nat_eq (mask xs ys % 2 ^ 64) 0 ≡ t → MatchBool t (xs ≡ ys) (xs ≢ ys)
    go true e = none_differ xs ys (sx ∙ sym sy) (sym bits ∙ eqb-true (mask xs ys % 2 ^ 64) 0 e)
    go false e = λ same. apart e (ap (mask xs) (sym same) ∙ same_mask xs)
      where
        apart : nat_eq (mask xs ys % 2 ^ 64) 0 ≡ false → mask xs ys ≡ 0 → ⊥
        apart f none = let t = eq-eqb (mask xs ys % 2 ^ 64) 0 (bits ∙ none) in absurd cc

pub same_is : (a b : List ℕ) → length a ≡ 16 → length b ≡ 16
    → MatchBool (nat_eq (mask_l (map (top 7)
    (zip2 (λ x y. cond (not (eqb x y)) 255 0) (take 16 a) (take 16 b))) % 2 ^ 64) 0) (a ≡ b) (a ≢ b)
unfolding differs
same_is a b sa sb =
    let whole_a = take_all 16 a (omega arith) in
    let whole_b = take_all 16 b (omega arith) in
    subst (λ (y : List ℕ). MatchBool (nat_eq (mask (take 16 a) y % 2 ^ 64) 0) (a ≡ b) (a ≢ b)) (sym whole_b)
    (subst (λ (x : List ℕ). MatchBool (nat_eq (mask x b % 2 ^ 64) 0) (a ≡ b) (a ≢ b)) (sym whole_a) (compared a b sa sb))
