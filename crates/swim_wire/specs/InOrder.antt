-- The slots of messages that have all their keys.
use Rattle.std.specs.Prelude.{ℕ, Bool, List, [], ◌∷◌, Some, None}
use Rattle.swim_wire.specs.Layout.Spelled.{number, raw, flag}
use Rattle.swim_wire.specs.Reading.{Slots}

-- memberlist's pushNodeState
abbrev pub state_slots : List ℕ → ℕ → List ℕ → List ℕ → ℕ → ℕ → List ℕ → Slots
state_slots addr inc meta name port state vsn =
    Some (raw addr) ∷ Some (number inc) ∷ Some (raw meta) ∷ Some (raw name) ∷ Some (number port)
    ∷ Some (number state) ∷ Some (raw vsn) ∷ None ∷ []

-- memberlist's alive
abbrev pub alive_slots : List ℕ → ℕ → List ℕ → List ℕ → ℕ → List ℕ → Slots
alive_slots addr inc meta node port vsn =
    Some (raw addr) ∷ Some (number inc) ∷ Some (raw meta) ∷ Some (raw node) ∷ Some (number port)
    ∷ Some (raw vsn) ∷ None ∷ None ∷ []

-- memberlist's suspect and dead
abbrev pub accusation_slots : List ℕ → ℕ → List ℕ → Slots
accusation_slots from inc node =
    Some (raw from) ∷ Some (number inc) ∷ Some (raw node) ∷ None ∷ None ∷ None ∷ None ∷ None ∷ []

-- memberlist's pushPullHeader
abbrev pub header_slots : Bool → ℕ → ℕ → Slots
header_slots join nodes user_len = Some (flag join) ∷ Some (number nodes) ∷ Some (number user_len)
    ∷ None ∷ None ∷ None ∷ None ∷ None ∷ []
