-- The packet on a line, and its message.
use Rattle.std.specs.Prelude.{◌≡◌, ℕ, List, [], ◌∷◌, Ok}
use Rattle.std.specs.Str.Lines.{strip_carriage_return}
use Rattle.hex.specs.Hex.{decode_of, encode_lower}
use Rattle.memberlist_transport.specs.declared.fault.PacketFault.TheVariants as packet
use Rattle.memberlist_transport.specs.declared.in_the_clear.InTheClear.{InTheClear}
use Rattle.memberlist_transport.specs.declared.in_the_clear.InTheClear.TheVariants.{Accepted}
use Rattle.memberlist_transport.specs.declared.message.Message.{Message}
use Rattle.memberlist_transport.specs.declared.message.Message.TheVariants.{Claims, Claimless, Empty}
use Rattle.memberlist_transport.specs.Packet.{Holds, Fails as FailsPacket}
use Rattle.swimunwrap.specs.declared.cause.Cause.{Cause}
use Rattle.swimunwrap.specs.declared.cause.Cause.TheVariants.{NotHex, Wrapped, NoMessage, NoKeyFits, Unencrypted}

-- the line is the hexadecimal of these bytes; one carriage return at its end is ignored
abbrev pub IsHexOf : List ℕ → List ℕ → Type 0
IsHexOf line bytes = decode_of (strip_carriage_return line) ≡ Ok bytes

-- the text of a message: its hexadecimal, if it makes claims
abbrev pub text_of : Message → List ℕ
text_of (Claims kind message) = encode_lower message.items
text_of (Claimless kind) = []
text_of Empty = []

-- what is read from a packet: the text of its message
abbrev pub ReadsPacket : InTheClear → List (List ℕ) → List ℕ → List ℕ → Type 0
ReadsPacket policy keys bytes text =
    (message : Message) × Holds policy keys bytes message × (text ≡ text_of message)

-- what becomes of a line in the clear: one without bytes has no packet, and is always read
abbrev pub accepted_on : InTheClear → List ℕ → InTheClear
accepted_on policy [] = Accepted
accepted_on policy (first ∷ rest) = policy

-- what is read from a line: that of the packet on it
abbrev pub ReadsLine : InTheClear → List (List ℕ) → List ℕ → List ℕ → Type 0
ReadsLine policy keys line text =
    (bytes : List ℕ) × IsHexOf line bytes × ReadsPacket (accepted_on policy bytes) keys bytes text

-- why nothing is read from a packet
abbrev pub FailsBytes : InTheClear → List (List ℕ) → List ℕ → Cause → Type 0
FailsBytes policy keys bytes NotHex = ⊥
FailsBytes policy keys bytes (Wrapped fault) = FailsPacket policy keys bytes (packet.Wrapped fault)
FailsBytes policy keys bytes (NoMessage first) = FailsPacket policy keys bytes (packet.NoMessage first)
FailsBytes policy keys bytes NoKeyFits = FailsPacket policy keys bytes packet.NoKeyFits
FailsBytes policy keys bytes Unencrypted = FailsPacket policy keys bytes packet.Unencrypted

-- why nothing is read from a line: it is not hexadecimal, or because of the packet on it
abbrev pub Fails : InTheClear → List (List ℕ) → List ℕ → Cause → Type 0
Fails policy keys line NotHex = (bytes : List ℕ) → ¬ IsHexOf line bytes
Fails policy keys line cause =
    (bytes : List ℕ) × IsHexOf line bytes × FailsBytes (accepted_on policy bytes) keys bytes cause
