-- The values that the code keeps, as the values of fields.
use Rattle.std.specs.Prelude.{ℕ, List, map, Option}
use Rattle.std.specs.Option.{option_map}
use Rattle.memberlist_message.specs.declared.fields.Value.{Value}
use Rattle.memberlist_message.specs.declared.fields.Value.TheVariants as kept
use Rattle.memberlist_message.specs.declared.raw.Raw.{Raw}
use Rattle.memberlist_message.specs.declared.raw.Raw.TheVariants as raws
use Rattle.memberlist_message.specs.Slots.{Slot, Slots}
use Rattle.memberlist_message.specs.Slots.Slot.{long, short, raw, flag}

-- the text or bytes
abbrev pub bytes_in : Raw → List ℕ
bytes_in (raws.Part part) = part.now
bytes_in (raws.Made bytes) = bytes.items

-- a value
abbrev pub slot_of : Value → Slot
slot_of (kept.Long v) = long v
slot_of (kept.Short v) = short v
slot_of (kept.Raw bytes) = raw (bytes_in bytes)
slot_of (kept.Flag f) = flag f

-- the values of all fields
abbrev pub slots_of : List (Option Value) → Slots
slots_of values = map (λ value. option_map slot_of value) values
