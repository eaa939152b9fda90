-- The words of a line.
use Rattle.std.proofs.Common.{◌≡◌, ℕ, zero, suc, ◌<◌, ◌≤◌, List, [], ◌∷◌, length, take, refl, ap, arith}

-- if fewer elements were taken than asked for, all were taken
pub take_short : {A : Type 0} (n : ℕ) (xs : List A) → length (take n xs) < n → take n xs ≡ xs
take_short zero xs l = absurd (omega (arith, l))
take_short (suc n) [] l = refl
take_short (suc n) (x ∷ xs) l = ap (λ t. x ∷ t) (take_short n xs (omega (arith, l)))

-- if as many elements were taken as asked for, there are at least as many
pub take_full : {A : Type 0} (n : ℕ) (xs : List A) → n ≤ length (take n xs) → n ≤ length xs
take_full zero xs l = omega arith
take_full (suc n) [] l = l
take_full (suc n) (x ∷ xs) l = let rest = take_full n xs (omega (arith, l)) in omega (arith, rest)
