-- The parts of a compound message (memberlist's util.go, decodeCompoundMessage, with the number of
-- parts as an int, as later versions have it).
use Rattle.std.specs.Prelude.{ℕ, ◌*◌, ◌==◌, List, [], ◌∷◌, length, take, drop, nat_lt, Option, Some, None, if◌then◌else◌}
use Rattle.std.specs.Int.{w16, from_be_bytes}

-- parts that are still to be handed out: their lengths, and the bytes that are left
pub record PartsValue : Type 0 where
  pub lens : List ℕ
  pub bytes : List ℕ

-- the lengths in these bytes, two each, the high byte first
abbrev pub lengths_in : List ℕ → List ℕ
lengths_in [] = []
lengths_in (high ∷ []) = []
lengths_in (high ∷ low ∷ rest) = from_be_bytes w16 (high ∷ low ∷ []) ∷ lengths_in rest

-- what follows the number of parts
abbrev pub counted : ℕ → List ℕ → Option PartsValue
counted count rest =
    if nat_lt (length rest) (2 * count) then None
    else Some (record { lens = lengths_in (take (2 * count) rest); bytes = drop (2 * count) rest })

-- the parts of a compound message, unless it ends before the last length does
abbrev pub compound_of : List ℕ → Option PartsValue
compound_of [] = None
compound_of (first ∷ []) = None
compound_of (first ∷ count ∷ rest) = if first == 7 then counted count rest else None

-- the parts of these lengths, up to the first that is longer than the bytes that are left
abbrev pub parts_in : List ℕ → List ℕ → List (List ℕ)
parts_in [] bytes = []
parts_in (len ∷ lens) bytes =
    if nat_lt (length bytes) len then [] else take len bytes ∷ parts_in lens (drop len bytes)

-- how many parts are truncated: the first that does not fit, and those behind it
abbrev pub truncated_in : List ℕ → List ℕ → ℕ
truncated_in [] bytes = 0
truncated_in (len ∷ lens) bytes =
    if nat_lt (length bytes) len then length (len ∷ lens) else truncated_in lens (drop len bytes)
