-- The table of powers agrees with its definition.
use Rattle.std.proofs.Common.{◌≡◌, ℕ, zero, suc, ◌+◌, ◌<◌, Bool, true, false, ◌&&◌, eqb, List, [], ◌∷◌, length, get_or}
use Rattle.std.proofs.Common.{refl, ap, ◌∙◌, arith}
use Rattle.std.proofs.lemmas.Bool.{eqb-true}
use Rattle.memberlist_cipher.specs.Field.{carryless, modulo, product, x_to}
use Rattle.memberlist_cipher.specs.declared.field.TheConstants.{POWERS}

agree : (ℕ → ℕ) → ℕ → List ℕ → Bool
agree f i [] = true
agree f i (x ∷ xs) = eqb x (f i) && agree f (i + 1) xs

pub both : (a b : Bool) → (a && b) ≡ true → (a ≡ true) × (b ≡ true)
both true true e = (refl, refl)
both true false e = absurd cc
both false b e = absurd cc

agree_at : (f : ℕ → ℕ) (i : ℕ) (xs : List ℕ) (k : ℕ) → agree f i xs ≡ true → k < length xs → get_or xs k 0 ≡ f (i + k)
unfolding agree
agree_at f i [] k e within = absurd (omega arith)
agree_at f i (x ∷ xs) zero e within = eqb-true x (f i) (both _ _ e).0 ∙ ap f (omega arith)
agree_at f i (x ∷ xs) (suc k) e within = agree_at f (i + 1) xs k (both _ _ e).1 (omega arith) ∙ ap f (omega arith)

all_powers : agree x_to 0 POWERS ≡ true
unfolding agree x_to product carryless modulo
all_powers = refl

pub POWERS_at : (k : ℕ) → k < 15 → get_or POWERS k 0 ≡ x_to k
POWERS_at k below = agree_at x_to 0 POWERS k all_powers below ∙ ap x_to (omega arith)
