-- The parts of a compound message.
use Rattle.std.proofs.Common.{◌≡◌, ℕ, ◌+◌, ◌/◌, ◌≤◌, Bool, true, false, cond, ltb, List, [], ◌∷◌, length, take, drop, refl, arith}
use Rattle.std.proofs.lemmas.Bool.{le-ltb}
use Rattle.std.specs.Int.{w16, from_be_bytes}
use Rattle.memberlist_message.specs.Compounds.{lengths_in, parts_in, truncated_in}

-- two bytes a length
pub length_of_lengths : (lens : List ℕ) → length lens / 2 ≡ length (lengths_in lens)
length_of_lengths [] = refl
length_of_lengths (high ∷ []) = refl
length_of_lengths (high ∷ low ∷ rest) =
    let more = length_of_lengths rest in
    let long : length (high ∷ low ∷ rest) ≡ length rest + 2 = omega arith in
    omega (arith, more, long)

nothing : (b : Bool) (part : List ℕ) (parts : List (List ℕ)) (n m : ℕ) → cond b [] (part ∷ parts) ≡ [] → n ≡ cond b n m
nothing true part parts n m e = refl
nothing false part parts n m e = absurd cc

-- if there is no part to take, each part is truncated
pub all_truncated : (lens bytes : List ℕ) → parts_in lens bytes ≡ [] → length lens ≡ truncated_in lens bytes
all_truncated [] bytes e = refl
all_truncated (len ∷ lens) bytes e = nothing (ltb (length bytes) len) _ _ _ _ e

-- the first length
pub first_length : (lens front rest : List ℕ) → front ≡ take 2 lens → rest ≡ drop 2 lens → length rest + 2 ≡ length lens
    → lengths_in lens ≡ from_be_bytes w16 front ∷ lengths_in rest
first_length [] front rest f r long = absurd (omega arith)
first_length (high ∷ []) front rest f r long =
    let one : length (high ∷ []) ≡ 1 = refl in absurd (omega (arith, long, one))
first_length (high ∷ low ∷ more) front rest f r long = rw (f, r) refl

-- a part that fits
pub taken : (len : ℕ) (lens bytes : List ℕ) → len ≤ length bytes → truncated_in (len ∷ lens) bytes ≡ truncated_in lens (drop len bytes)
taken len lens bytes le = let fits : ltb (length bytes) len ≡ false = le-ltb _ _ le in rw fits refl
