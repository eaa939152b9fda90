use Rattle.std.proofs.Common.{◌≡◌, ◌∷◌, length, map, take, All}
use Rattle.std.specs.Int.{w16, to_be_bytes}
use Rattle.std.specs.List.{flat_map}
use Rattle.swim_wire.specs.Canonical.{packet_bytes}
use Rattle.swim_wire.proofs.SpelledCompounds.{IsLegal}
use Rattle.swim_wire.proofs.canonical.encode_compound.Given as goal

abbrev pub invariant-loop-packet : goal.invariant-loop-packet
invariant-loop-packet l = record {
  lengths : l.out.items ≡ 7 ∷ length l.packets ∷ flat_map
      (λ part. to_be_bytes w16 (length part)) (map packet_bytes (take l.packet-index l.packets));
  packets : l.parts.items ≡ flat_map (λ part. part) (map packet_bytes (take l.packet-index l.packets));
  legal : All IsLegal (take l.packet-index l.packets);
}
