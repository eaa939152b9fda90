-- The parts of a message, by index.
use Rattle.std.specs.Prelude.{◌≡◌, ℕ, ◌≤◌, ◌==◌, List, [], ◌∷◌, length, take, drop, slice_get, Option, Some, None, if◌then◌else◌}
use Rattle.memberlist_message.specs.Compounds.{PartsValue, compound_of, parts_in}
use Rattle.swim_c.specs.declared.parts.Part.{Part}
use Rattle.swim_c.specs.Statuses as statuses

-- the parts of a compound message, up to the first that is cut off
abbrev pub parts_or_none : Option PartsValue → List (List ℕ)
parts_or_none None = []
parts_or_none (Some p) = parts_in p.lens p.bytes

-- The parts of a message: those of a compound one, of which there are none if it ends before their
-- lengths do. Any other message is its own part.
abbrev pub parts_of : List ℕ → List (List ℕ)
parts_of [] = []
parts_of (first ∷ rest) =
    if first == 7 then parts_or_none (compound_of (first ∷ rest)) else (first ∷ rest) ∷ []

-- the first byte, or 0
abbrev pub first_of : List ℕ → ℕ
first_of [] = 0
first_of (first ∷ rest) = first

-- The part at this index is where it is said to be, and begins so (0). Or there is none (71).
pub data PartDone (text : List ℕ) (i : ℕ) (p : Part) : Type 0 where
  there : (part : List ℕ) → p.status ≡ 0 → slice_get (parts_of text) i ≡ Some part
      → take p.len (drop p.at text) ≡ part → p.kind ≡ first_of part → PartDone text i p
  none : length (parts_of text) ≤ i
      → p ≡ record { status = statuses.no_item; kind = 0; at = 0; len = 0 } → PartDone text i p
