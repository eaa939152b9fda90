-- A datagram that is a packet by itself.
use Rattle.std.proofs.Common.{◌≡◌, ℕ, List, [], ◌∷◌, ◌++◌, length, flat_map, refl, sym, subst}
use Rattle.std.specs.Int.{w16, to_be_bytes}
use Rattle.swim_wire.specs.Checks.{BeginsWith}
use Rattle.swim_wire.specs.Packet.{PacketValue}
use Rattle.swim_wire.specs.Texts.{PacketText, DatagramText}
use Rattle.swim_wire.specs.Texts.DatagramText.{packet, compound}

-- a packet is a datagram
pub one_packet : (bytes : List ℕ) (p : PacketValue) → PacketText bytes p → DatagramText bytes (p ∷ [])
one_packet bytes p text = packet p text refl

-- a datagram of one packet that is not a compound packet is that packet
pub lone_packet : (bytes : List ℕ) (p : PacketValue) → DatagramText bytes (p ∷ []) → ¬ BeginsWith 7 bytes → PacketText bytes p
lone_packet bytes p (packet q text is) other = let same : p ≡ q = cc in subst (PacketText bytes) (sym same) text
lone_packet bytes p (compound parts few short is texts) other =
    let body = length parts ∷ flat_map (λ part. to_be_bytes w16 (length part)) parts ++ flat_map (λ part. part) parts in
    absurd (other (body, is))
