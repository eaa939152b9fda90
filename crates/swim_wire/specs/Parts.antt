-- The parts of a compound packet, and the packets that were read from them.
use Rattle.std.specs.Prelude.{◌≡◌, ◌⊎◌, ℕ, List, [], ◌∷◌, ◌++◌, Result, Ok, Err, ⊤}
use Rattle.std.specs.Int.{w16, from_be_bytes}
use Rattle.swim_wire.specs.declared.fault.WireFault.{WireFault}
use Rattle.swim_wire.specs.declared.fault.WireFault.TheVariants.{Memory}
use Rattle.swim_wire.specs.Packet.{PacketValue}

-- the lengths in these bytes, two bytes each
abbrev pub lengths_in : List ℕ → List ℕ
lengths_in [] = []
lengths_in (high ∷ []) = []
lengths_in (high ∷ low ∷ bytes) = from_be_bytes w16 (high ∷ low ∷ []) ∷ lengths_in bytes

-- the packets in the result are these, or its refusal is this one, unless memory ran out
abbrev pub ListsUnlessMemory : {X : Type 0} → (X → List PacketValue)
    → Result (List PacketValue) WireFault → Result X WireFault → Type 0
ListsUnlessMemory items wanted (Ok packets) = wanted ≡ Ok (items packets)
ListsUnlessMemory items wanted (Err error) = (wanted ≡ Err error) ⊎ (error ≡ Memory)

-- these packets were added, unless they were refused or memory ran out
abbrev pub GrowsBy : Result (List PacketValue) WireFault → List PacketValue → List PacketValue
    → Result ⊤ WireFault → Type 0
GrowsBy (Ok more) old new (Ok done) = new ≡ old ++ more
GrowsBy (Err error) old new (Ok done) = ⊥
GrowsBy wanted old new (Err error) = (wanted ≡ Err error) ⊎ (error ≡ Memory)
