-- The canonical bytes of a compound packet are a datagram of its packets.
use Rattle.std.proofs.Common.{◌<◌, ◌≤◌, ◌^◌, List, [], ◌∷◌, length, map, All, refl, inl, arith}
use Rattle.std.proofs.lemmas.List.{length-map}
use Rattle.std.proofs.lemmas.List.Elements.{All-head, All-tail, All-map}
use Rattle.swim_claim.specs.Claim.{IsLegalClaim}
use Rattle.swim_wire.specs.Canonical.{packet_bytes, packets_bytes}
use Rattle.swim_wire.specs.Packet.{PacketValue, IsLegalPacket}
use Rattle.swim_wire.specs.Texts.{PartTexts, DatagramText, DatagramText as datagrams}
use Rattle.swim_wire.proofs.SpelledLengths.{packet_bytes-short}
use Rattle.swim_wire.proofs.SpelledTexts.{PacketText-canonical}

-- a packet is legal, as each `Packet` is
abbrev pub IsLegal : PacketValue → Type 0
IsLegal p = IsLegalClaim p.claim × IsLegalPacket p.claim p.from

PartTexts-canonical : (packets : List PacketValue) → All IsLegal packets → PartTexts (map packet_bytes packets) packets
PartTexts-canonical [] legal = refl
PartTexts-canonical (p ∷ rest) legal =
    let here : IsLegal p = All-head IsLegal p rest legal in
    inl (p, rest, PacketText-canonical p here.0 here.1, PartTexts-canonical rest (All-tail IsLegal p rest legal), refl)

pub DatagramText-canonical : (packets : List PacketValue) → length packets ≤ 255 → All IsLegal packets
    → DatagramText (packets_bytes packets) packets
DatagramText-canonical packets few legal =
    datagrams.compound (map packet_bytes packets) (omega (arith, length-map packets packet_bytes))
    (All-map (λ part. length part < 2 ^ 16) packet_bytes packets
    (λ k d in_range. let here : IsLegal _ = legal k d in_range in packet_bytes-short _ here.0 here.1))
    refl (PartTexts-canonical packets legal)
