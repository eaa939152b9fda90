-- The values of a map, as the code keeps them: each at the index of its key in the layout.
use Rattle.std.specs.Prelude.{◌≤◌, List, [], ◌∷◌, length, map, Option, Some, None, IsSome}
use Rattle.std.specs.Option.{option_map}
use Rattle.swim_wire.specs.declared.layout.Field.{Field}
use Rattle.swim_wire.specs.declared.layout.Limit.{Limit}
use Rattle.swim_wire.specs.declared.layout.Limit.TheVariants as limits
use Rattle.swim_wire.specs.declared.map.Value.{Value}
use Rattle.swim_wire.specs.declared.map.Value.TheVariants.{Number, Raw, Flag}
use Rattle.swim_wire.specs.Keys.{key_text}
use Rattle.swim_wire.specs.Layout.{Layout, Spelled}
use Rattle.swim_wire.specs.Layout.Spelled.{number, raw, flag}

-- the value is of the kind and within the limit
abbrev pub Fits : Limit → Value → Type 0
Fits (limits.Number max) (Number v) = v ≤ max
Fits (limits.Raw limit) (Raw bytes) = length bytes.items ≤ limit
Fits limits.Flag (Flag f) = Unit {0}
Fits limit value = ⊥

-- so is the value of a key, if there is one
abbrev pub FitsIfSome : Limit → Option Value → Type 0
FitsIfSome limit None = Unit {0}
FitsIfSome limit (Some value) = Fits limit value

-- so is the value of each key of the layout
abbrev pub FitsEach : List Field → List (Option Value) → Type 0
FitsEach [] values = Unit {0}
FitsEach (field ∷ layout) [] = ⊥
FitsEach (field ∷ layout) (value ∷ values) = FitsIfSome field.limit value × FitsEach layout values

-- what a value means
abbrev pub spelled : Value → Spelled
spelled (Number v) = number v
spelled (Raw bytes) = raw bytes.items
spelled (Flag f) = flag f

-- the values as a map encodes them
abbrev pub slots_of : List (Option Value) → List (Option Spelled)
slots_of values = map (λ value. option_map spelled value) values

-- the keys as a map encodes them
abbrev pub layout_of : List Field → Layout
layout_of fields = map (λ field. (key_text field.key, field.limit)) fields

-- a value of this kind can be read with this memory: text and bytes need some
abbrev pub CanRead : {A : Type 0} → Option A → Limit → Type 0
CanRead alloc (limits.Raw limit) = IsSome alloc
CanRead alloc limit = Unit {0}

-- so is each value of the layout
abbrev pub CanReadEach : {A : Type 0} → Option A → List Field → Type 0
CanReadEach alloc [] = Unit {0}
CanReadEach alloc (field ∷ layout) = CanRead alloc field.limit × CanReadEach alloc layout
