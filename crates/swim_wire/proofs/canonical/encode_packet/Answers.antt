use Rattle.std.proofs.Common.{◌≡◌, ◌++◌, ap, ◌∙◌}
use Rattle.swim_wire.specs.Canonical.{packet_bytes}
use Rattle.swim_wire.proofs.SpelledTexts.{PacketText-canonical}
use Rattle.swim_wire.proofs.canonical.encode_packet.Goals as goal

pub returns-clause-text : goal.returns-clause-text
returns-clause-text c =
    let same : c.write_packet.new.out.items ≡ packet_bytes c.args.packet.now =
    c.in_ok-write_packet.ensures.ok ∙ ap (λ z. z ++ packet_bytes c.args.packet.now) c.new-out.ensures.items in
    rw same (PacketText-canonical c.args.packet.now c.in_ok-write_packet.ensures.legal c.in_ok-write_packet.ensures.made_by)
