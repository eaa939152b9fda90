-- The sum of squares once one place has no further number.
use Rattle.std.proofs.Common.{◌≡◌, ◌⊎◌, inl, inr, ℕ, List, [], ◌∷◌, length, refl}
use Rattle.std.specs.Float.{Float}
use Rattle.serf_view.specs.RoundTrip.{squares_after}

pub squares_after-end : (sum : Float) (xs ys : List ℕ) → (length xs ≡ 0) ⊎ (length ys ≡ 0) → squares_after sum xs ys ≡ sum
squares_after-end sum [] ys h = refl
squares_after-end sum (x ∷ xs) [] h = refl
squares_after-end sum (x ∷ xs) (y ∷ ys) (inl e) = absurd (cc (e))
squares_after-end sum (x ∷ xs) (y ∷ ys) (inr e) = absurd (cc (e))
