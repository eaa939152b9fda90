-- The values of the fields of a message.
use Rattle.std.specs.Prelude.{ℕ, Bool, false, List, [], ◌∷◌, Option, Some, None, slice_index_or}

-- the value of a field: Go's uint32, uint16, string or []byte, and bool
pub data Slot : Type 0 where
  long : ℕ → Slot
  short : ℕ → Slot
  raw : List ℕ → Slot
  flag : Bool → Slot

-- the values, each at the index of its field in the layout; one that was not read is zero
abbrev pub Slots : Type 0
Slots = List (Option Slot)

-- the value at an index, if one was read
abbrev pub slot : Slots → ℕ → Option Slot
slot slots place = slice_index_or slots place None

-- no values, for a layout of up to eight fields
abbrev pub no_slots : Slots
no_slots = None ∷ None ∷ None ∷ None ∷ None ∷ None ∷ None ∷ None ∷ []

-- the number, or 0
abbrev pub long_or_zero : Option Slot → ℕ
long_or_zero (Some (Slot.long v)) = v
long_or_zero value = 0

-- the number, or 0
abbrev pub short_or_zero : Option Slot → ℕ
short_or_zero (Some (Slot.short v)) = v
short_or_zero value = 0

-- the text or bytes, or none
abbrev pub raw_or_empty : Option Slot → List ℕ
raw_or_empty (Some (Slot.raw s)) = s
raw_or_empty value = []

-- the truth value, or false
abbrev pub flag_or_false : Option Slot → Bool
flag_or_false (Some (Slot.flag f)) = f
flag_or_false value = false
