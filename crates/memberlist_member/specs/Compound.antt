-- Several messages in one datagram.
use Rattle.std.specs.Prelude.{ℕ, ◌+◌, ◌/◌, ◌%◌, List, [], ◌∷◌, ◌++◌, length, sum_by}
use Rattle.std.specs.List.{concat, flat_map}

-- how many bytes the parts take, with so many besides for each
abbrev pub total : ℕ → List (List ℕ) → ℕ
total overhead parts = sum_by (λ part. overhead + length part) parts

-- a length in two bytes, the greater one first
abbrev pub length_bytes : List ℕ → List ℕ
length_bytes part = length part / 256 ∷ length part % 256 ∷ []

-- util.go, makeCompoundMessage: its type, how many parts there are, their lengths, and the parts
abbrev pub compound_bytes : List (List ℕ) → List ℕ
compound_bytes parts = 7 ∷ length parts ∷ flat_map length_bytes parts ++ concat parts

-- one message is sent as it is
abbrev pub datagram_bytes : List (List ℕ) → List ℕ
datagram_bytes [] = compound_bytes []
datagram_bytes (part ∷ []) = part
datagram_bytes (first ∷ second ∷ parts) = compound_bytes (first ∷ second ∷ parts)
