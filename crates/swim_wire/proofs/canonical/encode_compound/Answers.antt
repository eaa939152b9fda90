use Rattle.std.proofs.Common.{◌≡◌, ℕ, ◌+◌, ◌-◌, ◌<◌, ◌^◌, ◌∷◌, ◌++◌, [], List, All, length, get_or, take, ap, subst}
use Rattle.std.proofs.Common.{◌∙◌, length-append, arith, rules}
use Rattle.std.proofs.lemmas.Grind.{common_steps}
use Rattle.std.proofs.lemmas.List.{take_all}
use Rattle.std.proofs.lemmas.List.Elements.{All-more}
use Rattle.std.specs.Int.{w16, to_be_bytes}
use Rattle.swim_wire.specs.Canonical.{packet_bytes, packets_bytes}
use Rattle.swim_wire.specs.Packet.{PacketValue}
use Rattle.swim_wire.proofs.SpelledLengths.{packet_bytes-short}
use Rattle.swim_wire.proofs.SpelledCompounds.{IsLegal, DatagramText-canonical}
use Rattle.swim_wire.proofs.SpelledSteps.{flat_map-one_more}
use Rattle.swim_wire.proofs.canonical.encode_compound.Goals as goal

pub overflow_cast-len : goal.overflow_cast-len
overflow_cast-len c =
    let short : length (packet_bytes c.packet-item.result) < 2 ^ 16 =
    packet_bytes-short c.packet-item.result c.in_ok-write_packet.ensures.legal c.in_ok-write_packet.ensures.made_by in
    let grown : length c.write_packet.new.out.items ≡ length c.loop-packet.parts.items + length (packet_bytes c.packet-item.result) =
    ap length c.in_ok-write_packet.ensures.ok ∙ length-append _ _ in
    let fits : c.len.result - c.len-start.result < 2 ^ 16 = omega arith in
    search rules

pub loop-packet-preserved : goal.loop-packet-preserved
loop-packet-preserved c =
    let item : PacketValue = c.packet-item.result in
    let i : ℕ = c.loop-packet.packet-index in
    let packets : List PacketValue = c.args.packets.now in
    let is : item ≡ get_or packets i item = c.packet-item.is in
    let in_range : i < length packets = c.loop-packet-test.true in
    let grown : length c.write_packet.new.out.items ≡ length c.loop-packet.parts.items + length (packet_bytes item) =
    ap length c.in_ok-write_packet.ensures.ok ∙ length-append _ _ in
    let len : c.len.result - c.len-start.result ≡ length (packet_bytes item) = omega arith in
    let legal : IsLegal item = (c.in_ok-write_packet.ensures.legal, c.in_ok-write_packet.ensures.made_by) in
    let spelled : c.extend_from_slice-in-loop-packet.new.self.items ≡ c.loop-packet.out.items
    ++ to_be_bytes w16 (length (packet_bytes item)) =
    c.in_ok-extend_from_slice-2.ensures.items ∙ ap
    (λ z. c.loop-packet.out.items ++ z) (c.to_be_bytes.ensures ∙ ap (λ z. to_be_bytes w16 z) len) in
    record {
      lengths =
          flat_map-one_more (λ part. to_be_bytes w16 (length part)) packet_bytes packets i item (7 ∷ length packets ∷ []) _ _
          in_range c.loop-packet.invariant.lengths
          (spelled ∙ ap (λ p. c.loop-packet.out.items ++ to_be_bytes w16 (length (packet_bytes p))) is);
      packets = flat_map-one_more (λ part. part) packet_bytes packets i item [] _ _ in_range c.loop-packet.invariant.packets
          (c.in_ok-write_packet.ensures.ok ∙ ap (λ p. c.loop-packet.parts.items ++ packet_bytes p) is);
      legal = All-more IsLegal packets i item in_range c.loop-packet.invariant.legal (subst IsLegal is legal);
    }

pub returns-clause-text : goal.returns-clause-text
returns-clause-text c =
    let packets : List PacketValue = c.args.packets.now in
    let whole : take c.loop-packet.packet-index packets ≡ packets = take_all c.loop-packet.packet-index packets c.loop-packet-test.false in
    let legal : All IsLegal packets = subst (All IsLegal) whole c.loop-packet.invariant.legal in
    let same : c.extend_from_slice-2.new.self.items ≡ packets_bytes packets = grind (arith, common_steps) in
    rw same (DatagramText-canonical packets c.requires legal)
