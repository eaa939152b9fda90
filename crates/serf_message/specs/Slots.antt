-- The values of the fields of a message.
use Rattle.std.specs.Prelude.{ℕ, ℤ, pos, Bool, false, List, [], ◌∷◌, Option, Some, None, slice_index_or}

-- the value of a field: Go's uint64, uint32, uint16, uint8 or int64; string or []byte, or the bytes
-- of another value; and bool
pub data Slot : Type 0 where
  huge : ℕ → Slot
  long : ℕ → Slot
  short : ℕ → Slot
  tiny : ℕ → Slot
  signed : ℤ → Slot
  raw : List ℕ → Slot
  flag : Bool → Slot

-- the values, each at the index of its field in the layout; one that was not read is zero
abbrev pub Slots : Type 0
Slots = List (Option Slot)

-- the value at an index, if one was read
abbrev pub slot : Slots → ℕ → Option Slot
slot slots place = slice_index_or slots place None

-- no values, for a layout of up to eleven fields
abbrev pub no_slots : Slots
no_slots =
    None ∷ None ∷ None ∷ None ∷ None ∷ None ∷ None ∷ None ∷ None ∷ None ∷ None ∷ []

-- the number, or 0
abbrev pub huge_or_zero : Option Slot → ℕ
huge_or_zero (Some (Slot.huge v)) = v
huge_or_zero value = 0

-- the number, or 0
abbrev pub long_or_zero : Option Slot → ℕ
long_or_zero (Some (Slot.long v)) = v
long_or_zero value = 0

-- the number, or 0
abbrev pub short_or_zero : Option Slot → ℕ
short_or_zero (Some (Slot.short v)) = v
short_or_zero value = 0

-- the number, or 0
abbrev pub tiny_or_zero : Option Slot → ℕ
tiny_or_zero (Some (Slot.tiny v)) = v
tiny_or_zero value = 0

-- the number, or 0
abbrev pub signed_or_zero : Option Slot → ℤ
signed_or_zero (Some (Slot.signed v)) = v
signed_or_zero value = pos 0

-- the text or bytes, or none
abbrev pub raw_or_empty : Option Slot → List ℕ
raw_or_empty (Some (Slot.raw s)) = s
raw_or_empty value = []

-- the truth value, or false
abbrev pub flag_or_false : Option Slot → Bool
flag_or_false (Some (Slot.flag f)) = f
flag_or_false value = false

-- ---- the values at an index

abbrev pub huge_in : Slots → ℕ → ℕ
huge_in slots place = huge_or_zero (slot slots place)

abbrev pub long_in : Slots → ℕ → ℕ
long_in slots place = long_or_zero (slot slots place)

abbrev pub short_in : Slots → ℕ → ℕ
short_in slots place = short_or_zero (slot slots place)

abbrev pub tiny_in : Slots → ℕ → ℕ
tiny_in slots place = tiny_or_zero (slot slots place)

abbrev pub signed_in : Slots → ℕ → ℤ
signed_in slots place = signed_or_zero (slot slots place)

abbrev pub raw_in : Slots → ℕ → List ℕ
raw_in slots place = raw_or_empty (slot slots place)

abbrev pub flag_in : Slots → ℕ → Bool
flag_in slots place = flag_or_false (slot slots place)
