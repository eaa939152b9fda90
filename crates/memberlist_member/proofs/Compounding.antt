-- Messages in a datagram.
use Rattle.std.proofs.Common.{◌≡◌, ℕ, ◌+◌, ◌≤◌, List, [], ◌∷◌, ◌++◌, map, length, refl, sym, ap, ◌∙◌, arith, length-append}
use Rattle.std.proofs.lemmas.List.{length-map}
use Rattle.std.proofs.lemmas.List.Sums.{sum_by-cons}
use Rattle.std.specs.List.{concat, flat_map}
use Rattle.memberlist_member.specs.Compound.{compound_bytes, datagram_bytes, length_bytes, total}

pub lengths_map : {X : Type 0} (f : X → List ℕ) (xs : List X) → flat_map length_bytes (map f xs) ≡ flat_map (λ x. length_bytes (f x)) xs
lengths_map f [] = refl
lengths_map f (x ∷ xs) = ap (λ l. length_bytes (f x) ++ l) (lengths_map f xs)

pub concat_map : {X : Type 0} (f : X → List ℕ) (xs : List X) → concat (map f xs) ≡ flat_map f xs
concat_map f [] = refl
concat_map f (x ∷ xs) = ap (λ l. f x ++ l) (concat_map f xs)

parts_length : (parts : List (List ℕ)) → length (flat_map length_bytes parts ++ concat parts) ≡ total 2 parts
parts_length [] = refl
parts_length (part ∷ parts) =
    let rest = parts_length parts in
    let sum = sum_by-cons (λ p. 2 + length p) part parts in
    let outer = length-append (flat_map length_bytes parts) (concat parts) in
    let inner = length-append (flat_map length_bytes (part ∷ parts)) (concat (part ∷ parts)) in
    let last = length-append part (concat parts) in
    omega (arith, rest, sum, outer, inner, last)

pub compound_length : (parts : List (List ℕ)) → length (compound_bytes parts) ≡ 2 + total 2 parts
compound_length parts = let rest = parts_length parts in omega (arith, rest)

pub datagram_length : (parts : List (List ℕ)) → length (datagram_bytes parts) ≤ 2 + total 2 parts
datagram_length [] = let is = compound_length [] in omega (arith, is)
datagram_length (part ∷ []) = let sum = sum_by-cons (λ p. 2 + length p) part [] in omega (arith, sum)
datagram_length (first ∷ second ∷ parts) = let is = compound_length (first ∷ second ∷ parts) in omega (arith, is)

pub fits : (parts : List (List ℕ)) (n : ℕ) → total 2 parts + 2 ≤ n → length (datagram_bytes parts) ≤ n
fits parts n room = let len = datagram_length parts in omega (arith, len, room)

pub joined : (a b c d e lengths parts : List ℕ) (n : ℕ) → a ≡ [] → b ≡ a ++ 7 ∷ [] → c ≡ b ++ n ∷ [] → d ≡ c ++ lengths
    → e ≡ d ++ parts → e ≡ 7 ∷ n ∷ (lengths ++ parts)
joined a b c d e lengths parts n a_is b_is c_is d_is e_is =
    e_is ∙ ap (λ l. l ++ parts) (d_is ∙ ap (λ l. l ++ lengths) (c_is ∙ ap (λ l. l ++ n ∷ []) (b_is ∙ ap (λ l. l ++ 7 ∷ []) a_is)))

-- the bytes, as the code puts them together
pub compound_joined : {X : Type 0} (f : X → List ℕ) (xs : List X) (bytes : List ℕ)
    → bytes ≡ 7 ∷ length xs ∷ (flat_map (λ x. length_bytes (f x)) xs ++ flat_map f xs) → bytes ≡ compound_bytes (map f xs)
compound_joined f xs bytes is =
    is ∙ ap (λ l. 7 ∷ length xs ∷ (l ++ flat_map f xs)) (sym (lengths_map f xs))
    ∙ ap (λ l. 7 ∷ length xs ∷ (flat_map length_bytes (map f xs) ++ l)) (sym (concat_map f xs))
    ∙ ap (λ n. 7 ∷ n ∷ (flat_map length_bytes (map f xs) ++ concat (map f xs))) (sym (length-map xs f))
