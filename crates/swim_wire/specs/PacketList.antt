-- What a datagram carries.
use Rattle.std.specs.Prelude.{List, [], ◌∷◌, map, ⊤}
use Rattle.swim_claim.specs.declared.claim.Claim.{Claim}
use Rattle.swim_wire.specs.declared.datagram.Datagram.{Datagram}
use Rattle.swim_wire.specs.declared.datagram.Datagram.TheVariants.{Packet, Compound}
use Rattle.swim_wire.specs.Packet.{PacketValue}

-- the packets that it carries
abbrev pub packets_in : Datagram → List PacketValue
packets_in (Packet packet) = packet ∷ []
packets_in (Compound packets) = packets.items

-- their claims, in order
abbrev pub claims_in : Datagram → List Claim
claims_in datagram = map (λ p. p.claim) (packets_in datagram)

-- it is a compound packet
abbrev pub IsCompound : Datagram → Type 0
IsCompound (Packet packet) = ⊥
IsCompound (Compound packets) = ⊤
