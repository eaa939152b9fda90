-- The values that the code keeps, as the values of fields.
use Rattle.std.specs.Prelude.{List, map, Option}
use Rattle.std.specs.Option.{option_map}
use Rattle.serf_message.specs.declared.field_value.Value.{Value}
use Rattle.serf_message.specs.declared.field_value.Value.TheVariants.{Huge, Long, Short, Tiny, Signed, Raw, Flag}
use Rattle.serf_message.specs.Slots.{Slot, Slots}
use Rattle.serf_message.specs.Slots.Slot.{huge, long, short, tiny, signed, raw, flag}

-- a value
abbrev pub slot_of : Value → Slot
slot_of (Huge v) = huge v
slot_of (Long v) = long v
slot_of (Short v) = short v
slot_of (Tiny v) = tiny v
slot_of (Signed v) = signed v
slot_of (Raw bytes) = raw bytes.items
slot_of (Flag f) = flag f

-- the values of all fields
abbrev pub slots_of : List (Option Value) → Slots
slots_of values = map (λ value. option_map slot_of value) values
