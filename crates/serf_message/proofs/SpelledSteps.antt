-- A step of the writers: one more pair.
use Rattle.std.proofs.Common.{◌≡◌, ℕ, zero, suc, arith, ◌+◌, ◌<◌, List, [], ◌∷◌, ◌++◌, length, map, take, get_or, sym, ap, ◌∙◌}
use Rattle.std.proofs.lemmas.List.{take_more, map-append, flat_map_more}
use Rattle.std.specs.List.{flat_map, AllByRecursion}

-- one more piece
pub flat_map-one_more : {X Y : Type 0} (f : Y → List ℕ) (v : X → Y) (xs : List X) (i : ℕ) (d : X) (start out new : List ℕ) → i < length xs
    → out ≡ start ++ flat_map f (map v (take i xs)) → new ≡ out ++ f (v (get_or xs i d))
    → new ≡ start ++ flat_map f (map v (take (i + 1) xs))
flat_map-one_more f v xs i d start out new in_range before here =
    here ∙ ap (λ z. z ++ f (v (get_or xs i d))) before
    ∙ flat_map_more f start (map v (take i xs)) (v (get_or xs i d))
    ∙ ap (λ z. start ++ flat_map f z) (sym (map-append v (take i xs) (get_or xs i d ∷ [])))
    ∙ ap (λ z. start ++ flat_map f (map v z)) (sym (take_more xs i d in_range))

-- what holds of each element holds of the one at an index
pub each_holds : {X : Type 0} (P : X → Type 0) (xs : List X) (i : ℕ) (d : X) → AllByRecursion P xs → i < length xs → P (get_or xs i d)
each_holds P [] i d all lt = absurd (omega arith)
each_holds P (x ∷ xs) zero d all lt = all.0
each_holds P (x ∷ xs) (suc i) d all lt = each_holds P xs i d all.1 (omega arith)

-- what holds of what is seen of each element holds of what is seen of the one at an index
pub each_seen : {X A : Type 0} (P : A → Type 0) (view : X → A) (xs : List X) (i : ℕ) (d : X)
    → AllByRecursion P (map view xs) → i < length xs → P (view (get_or xs i d))
each_seen P view [] i d all lt = absurd (omega arith)
each_seen P view (x ∷ xs) zero d all lt = all.0
each_seen P view (x ∷ xs) (suc i) d all lt = each_seen P view xs i d all.1 (omega arith)
