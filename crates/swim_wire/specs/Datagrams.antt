-- The reading of a datagram: one packet, or the parts of a compound packet.
use Rattle.std.specs.Prelude.{◌≡◌, ◌≢◌, ℕ, zero, suc, ◌==◌, ◌||◌, Bool, List, [], ◌∷◌, ◌++◌, length, map, Result, Ok}
use Rattle.std.specs.Prelude.{Err, ◌⊎◌, if◌then◌else◌, ⊤}
use Rattle.std.specs.Int.{w16, to_be_bytes, from_be_bytes}
use Rattle.std.specs.List.{flat_map}
use Rattle.swim_pack.specs.Composing.{◌>>=◌, gives, lift}
use Rattle.swim_pack.specs.Reading.{next_byte, next_bytes}
use Rattle.swim_wire.specs.declared.fault.WireFault.{WireFault}
use Rattle.swim_wire.specs.declared.fault.WireFault.TheVariants.{Ended, Memory, NameEmpty, BadAddress, BadVersions}
use Rattle.swim_wire.specs.declared.fault.WireFault.TheVariants.{WrongType, BadState, TooManyNodes, UserTooLong}
use Rattle.swim_wire.specs.declared.fault.WireFault.TheVariants.{Trailing}
use Rattle.swim_wire.specs.Asking.{DatagramAsks}
use Rattle.swim_wire.specs.Checks.{BeginsWith, IsNoPacketType, ReasonForWhole}
use Rattle.swim_wire.specs.Fault.{fault_of_pack}
use Rattle.swim_wire.specs.Packet.{PacketValue}
use Rattle.swim_wire.specs.Reading.{Reading, checked, nothing_after, whole_packet}
use Rattle.swim_wire.specs.Texts.{IsPacketPart, PartTexts, DatagramText}

-- the length of a part, in two bytes
unfoldable pub length_at : Reading ℕ
length_at = do
  bytes ← lift fault_of_pack (next_bytes 2)
  gives (from_be_bytes w16 bytes)

-- the lengths of this many parts
unfoldable pub lengths_at : ℕ → Reading (List ℕ)
lengths_at zero = gives []
lengths_at (suc n) = do
  len ← length_at
  lens ← lengths_at n
  gives (len ∷ lens)

-- one packet, as a list
abbrev pub alone : Result PacketValue WireFault → Result (List PacketValue) WireFault
alone (Ok p) = Ok (p ∷ [])
alone (Err error) = Err error

-- whether the byte is a packet's type: that of a suspect, an alive or a dead message
abbrev pub is_packet_type : ℕ → Bool
is_packet_type first = (first == 3) || (first == 4) || (first == 5)

-- the packet of a part, or none if the part is skipped
abbrev pub packets_of : List ℕ → Result (List PacketValue) WireFault
packets_of [] = Ok []
packets_of (first ∷ rest) =
    if is_packet_type first then alone (whole_packet (first ∷ rest)) else Ok []

-- the packets of parts of these lengths, after those of the parts before them
unfoldable pub parts_at : List ℕ → List PacketValue → Reading (List PacketValue)
parts_at [] packets = gives packets
parts_at (len ∷ lens) packets = do
  part ← lift fault_of_pack (next_bytes len)
  more ← checked (packets_of part)
  parts_at lens (packets ++ more)

-- what follows the byte 7
unfoldable pub compound_at : Reading (List PacketValue)
compound_at = do
  count ← lift fault_of_pack next_byte
  lens ← lengths_at count
  parts_at lens []

-- the packets of a datagram with nothing after it
abbrev pub whole_datagram : List ℕ → Result (List PacketValue) WireFault
whole_datagram [] = Err Ended
whole_datagram (first ∷ rest) =
    if first == 7 then nothing_after (compound_at rest) else alone (whole_packet (first ∷ rest))

-- ---- what a refusal means

-- The bytes are a compound packet up to a part that starts as a packet does, but is not a packet,
-- for this reason.
pub record HasBadPart (error : WireFault) (bytes : List ℕ) : Type 0 where
  pub before : List (List ℕ)
  pub packets : List PacketValue
  pub part : List ℕ
  pub later : List ℕ
  pub lens : List ℕ
  pub rest : List ℕ
  -- the lengths of the parts
  pub lengths : lens ≡ map length before ++ length part ∷ later
  pub text : bytes ≡ 7 ∷ length lens ∷ flat_map (to_be_bytes w16) lens
      ++ (flat_map (λ p. p) before ++ (part ++ rest))
  pub right : PartTexts before packets
  pub is_packet : IsPacketPart part
  pub wrong : ReasonForWhole error part

-- a datagram, and at least one byte after it
abbrev pub HasTrailingDatagram : List ℕ → Type 0
HasTrailingDatagram bytes =
    (front : List ℕ) × (packets : List PacketValue) × (byte : ℕ) × (rest : List ℕ)
    × DatagramText front packets × (bytes ≡ front ++ byte ∷ rest)

-- the datagram is one packet refused with this error, or has such a part
abbrev pub PacketOrPart : WireFault → List ℕ → Type 0
PacketOrPart error bytes = ReasonForWhole error bytes ⊎ HasBadPart error bytes

-- What a refusal means for bytes that are not a datagram; `Memory` means that they requested
-- memory.
abbrev pub ReasonForDatagram : WireFault → List ℕ → Type 0
ReasonForDatagram (WrongType found) bytes = BeginsWith found bytes × IsNoPacketType found
    × (found ≢ 7)
ReasonForDatagram Trailing bytes = HasTrailingDatagram bytes ⊎ HasBadPart Trailing bytes
ReasonForDatagram NameEmpty bytes = PacketOrPart NameEmpty bytes
ReasonForDatagram BadAddress bytes = PacketOrPart BadAddress bytes
ReasonForDatagram BadVersions bytes = PacketOrPart BadVersions bytes
ReasonForDatagram (BadState found) bytes = ⊥
ReasonForDatagram TooManyNodes bytes = ⊥
ReasonForDatagram UserTooLong bytes = ⊥
ReasonForDatagram Memory bytes = DatagramAsks bytes
ReasonForDatagram error bytes = ⊤
