-- Why bytes are not a message: the checks of a message as a whole, in order, and what surrounds its
-- map.
use Rattle.std.specs.Prelude.{◌≡◌, ◌≢◌, ℕ, ◌≤◌, ◌<◌, ◌⊎◌, List, [], ◌∷◌, ◌++◌, ⊤, IfSome}
use Rattle.swim_pack.specs.Ends.{Source}
use Rattle.swim_claim.specs.Details.{IsAddress, IsVersions}
use Rattle.swim_wire.specs.declared.fault.WireFault.{WireFault}
use Rattle.swim_wire.specs.declared.fault.WireFault.TheVariants.{Memory, NameEmpty, BadAddress, BadVersions, WrongType}
use Rattle.swim_wire.specs.declared.fault.WireFault.TheVariants.{BadState, TooManyNodes, UserTooLong, Trailing}
use Rattle.swim_wire.specs.declared.layout.Key.TheVariants as keys
use Rattle.swim_wire.specs.Asking.{MapAsks, PacketAsks}
use Rattle.swim_wire.specs.Layout.{Layout, Pairs, MapText, number_of, raw_of, alive_layout, accusation_layout, header_layout, state_layout}
use Rattle.swim_wire.specs.Limits.{max_nodes, max_user_state_len}
use Rattle.swim_wire.specs.Packet.{PacketValue}
use Rattle.swim_wire.specs.Texts.{PacketText}

-- ---- the first check that the values of a map fail

-- the address is checked before the versions
abbrev pub DetailsFail : WireFault → Pairs → Type 0
DetailsFail BadAddress pairs = ¬ IsAddress (raw_of keys.Addr pairs)
DetailsFail BadVersions pairs = IsAddress (raw_of keys.Addr pairs)
    × (¬ IsVersions (raw_of keys.Vsn pairs))
DetailsFail error pairs = ⊥

-- an alive message needs a name, and then legal details
abbrev pub AliveFails : WireFault → Pairs → Type 0
AliveFails NameEmpty pairs = raw_of keys.Node pairs ≡ []
AliveFails error pairs = (raw_of keys.Node pairs ≢ []) × DetailsFail error pairs

-- a suspect or dead message needs a name
abbrev pub AccusationFails : WireFault → Pairs → Type 0
AccusationFails NameEmpty pairs = raw_of keys.Node pairs ≡ []
AccusationFails error pairs = ⊥

-- the count of members is checked before the length of the user state
abbrev pub HeaderFails : WireFault → Pairs → Type 0
HeaderFails TooManyNodes pairs = max_nodes < number_of keys.Nodes pairs
HeaderFails UserTooLong pairs = (number_of keys.Nodes pairs ≤ max_nodes)
    × (max_user_state_len < number_of keys.UserStateLen pairs)
HeaderFails error pairs = ⊥

-- a state record needs a name, a state of 0 to 3, and, if it is alive, legal details
abbrev pub StateFails : WireFault → Pairs → Type 0
StateFails NameEmpty pairs = raw_of keys.Name pairs ≡ []
StateFails (BadState found) pairs = (raw_of keys.Name pairs ≢ [])
    × (number_of keys.State pairs ≡ found) × (3 < found)
StateFails error pairs = (raw_of keys.Name pairs ≢ []) × (number_of keys.State pairs ≡ 0)
    × DetailsFail error pairs

-- ---- bytes that start with such a map

-- The bytes start with a map of the layout whose values fail a check.
pub record BeginsFailing (layout : Layout) (fails : Pairs → Type 0) (bytes : List ℕ) : Type 0 where
  pub map_text : List ℕ
  pub pairs : Pairs
  pub rest : List ℕ
  pub text : MapText layout map_text pairs
  pub parts : bytes ≡ map_text ++ rest
  pub failing : fails pairs

-- the packet's map, after its type byte, fails this check
abbrev pub PacketFails : WireFault → List ℕ → Type 0
PacketFails error [] = ⊥
PacketFails error (first ∷ rest) =
    ((first ≡ 4) × BeginsFailing alive_layout (AliveFails error) rest)
    ⊎ (((first ≡ 3) ⊎ (first ≡ 5)) × BeginsFailing accusation_layout (AccusationFails error) rest)

-- the byte is not that of a packet: of a suspect, an alive or a dead message
abbrev pub IsNoPacketType : ℕ → Type 0
IsNoPacketType first = (first ≢ 3) × (first ≢ 4) × (first ≢ 5)

-- the bytes start with this one
abbrev pub BeginsWith : ℕ → List ℕ → Type 0
BeginsWith found bytes = (rest : List ℕ) × (bytes ≡ found ∷ rest)

-- What a refusal means for bytes that do not start with a packet; `Memory` means that they
-- requested memory. The other faults say where the reading of a map stopped.
abbrev pub ReasonForPacket : WireFault → List ℕ → Type 0
ReasonForPacket (WrongType found) bytes = BeginsWith found bytes × IsNoPacketType found
ReasonForPacket NameEmpty bytes = PacketFails NameEmpty bytes
ReasonForPacket BadAddress bytes = PacketFails BadAddress bytes
ReasonForPacket BadVersions bytes = PacketFails BadVersions bytes
ReasonForPacket (BadState found) bytes = ⊥
ReasonForPacket TooManyNodes bytes = ⊥
ReasonForPacket UserTooLong bytes = ⊥
ReasonForPacket Trailing bytes = ⊥
ReasonForPacket Memory bytes = PacketAsks bytes
ReasonForPacket error bytes = ⊤

-- a packet, and at least one byte after it
abbrev pub HasTrailing : List ℕ → Type 0
HasTrailing bytes = (front : List ℕ) × (p : PacketValue) × (byte : ℕ) × (rest : List ℕ)
    × PacketText front p × (bytes ≡ front ++ byte ∷ rest)

-- what a refusal means for bytes that are not a packet
abbrev pub ReasonForWhole : WireFault → List ℕ → Type 0
ReasonForWhole Trailing bytes = HasTrailing bytes
ReasonForWhole error bytes = ReasonForPacket error bytes

-- What a refusal means for bytes that do not start with a header. It is never `Memory`.
abbrev pub ReasonForHeader : WireFault → List ℕ → Type 0
ReasonForHeader (WrongType found) bytes = BeginsWith found bytes × (found ≢ 6)
ReasonForHeader TooManyNodes bytes = (rest : List ℕ) × (bytes ≡ 6 ∷ rest)
    × BeginsFailing header_layout (HeaderFails TooManyNodes) rest
ReasonForHeader UserTooLong bytes = (rest : List ℕ) × (bytes ≡ 6 ∷ rest)
    × BeginsFailing header_layout (HeaderFails UserTooLong) rest
ReasonForHeader NameEmpty bytes = ⊥
ReasonForHeader BadAddress bytes = ⊥
ReasonForHeader BadVersions bytes = ⊥
ReasonForHeader (BadState found) bytes = ⊥
ReasonForHeader Trailing bytes = ⊥
ReasonForHeader Memory bytes = ⊥
ReasonForHeader error bytes = ⊤

-- What a refusal means for bytes that do not start with a state record; `Memory` means that they
-- requested memory.
abbrev pub ReasonForState : WireFault → List ℕ → Type 0
ReasonForState NameEmpty bytes = BeginsFailing state_layout (StateFails NameEmpty) bytes
ReasonForState BadAddress bytes = BeginsFailing state_layout (StateFails BadAddress) bytes
ReasonForState BadVersions bytes = BeginsFailing state_layout (StateFails BadVersions) bytes
ReasonForState (BadState found) bytes =
    BeginsFailing state_layout (StateFails (BadState found)) bytes
ReasonForState (WrongType found) bytes = ⊥
ReasonForState TooManyNodes bytes = ⊥
ReasonForState UserTooLong bytes = ⊥
ReasonForState Trailing bytes = ⊥
ReasonForState Memory bytes = MapAsks state_layout bytes
ReasonForState error bytes = ⊤

-- it holds for the bytes that were to come, if the inlet's are known
abbrev pub ReasonForStart : (List ℕ → Type 0) → Source → Type 0
ReasonForStart reason old = IfSome old.coming reason
