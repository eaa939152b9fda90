-- The slots of the table.
use Rattle.std.specs.Prelude.{◌≡◌, ◌≢◌, ℕ, ◌+◌, ◌*◌, ◌<◌, List, length, slice_index}
use Rattle.memberlist_compress.specs.declared.table.Found.{Found}
use Rattle.memberlist_compress.specs.declared.table.Found.TheVariants.{Code, Slot}

-- how many slots there are
abbrev pub slots_len : ℕ
slots_len = 16384

-- the slot of a word and the byte after it
abbrev pub slot_of : ℕ → ℕ → ℕ → ℕ
slot_of code byte longer = (code * 256 + byte) * 4096 + longer

-- no slot is used
abbrev pub AreFree : List ℕ → Type 0
AreFree slots = (place : ℕ) → place < length slots → slice_index slots place ≡ 0

-- a slot that is used has this code for the word and the byte, or there is this slot for them
abbrev pub Finds : List ℕ → ℕ → ℕ → Found → Type 0
Finds slots code byte (Code longer) =
    (place : ℕ) × (place < length slots) × (slice_index slots place ≡ slot_of code byte longer)
    × (slice_index slots place ≢ 0) × (longer < 4096)
Finds slots code byte (Slot place) = (place < slots_len) × (length slots ≡ slots_len)
