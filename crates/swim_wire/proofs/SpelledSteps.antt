-- A step of the writers: one more pair.
use Rattle.std.proofs.Common.{◌≡◌, ℕ, ◌+◌, ◌<◌, List, [], ◌∷◌, ◌++◌, length, map, take, get_or, sym, ap, ◌∙◌}
use Rattle.std.proofs.lemmas.List.{take_more, map-append, flat_map_more}
use Rattle.std.specs.List.{flat_map}

-- one more piece
pub flat_map-one_more : {X Y : Type 0} (f : Y → List ℕ) (v : X → Y) (xs : List X) (i : ℕ) (d : X) (start out new : List ℕ) → i < length xs
    → out ≡ start ++ flat_map f (map v (take i xs)) → new ≡ out ++ f (v (get_or xs i d))
    → new ≡ start ++ flat_map f (map v (take (i + 1) xs))
flat_map-one_more f v xs i d start out new in_range before here =
    here ∙ ap (λ z. z ++ f (v (get_or xs i d))) before
    ∙ flat_map_more f start (map v (take i xs)) (v (get_or xs i d))
    ∙ ap (λ z. start ++ flat_map f z) (sym (map-append v (take i xs) (get_or xs i d ∷ [])))
    ∙ ap (λ z. start ++ flat_map f (map v z)) (sym (take_more xs i d in_range))
