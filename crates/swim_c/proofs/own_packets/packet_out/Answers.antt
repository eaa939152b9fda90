use Rattle.std.proofs.Common.{ℕ, List, ◌∙◌, subst}
use Rattle.swim_wire.specs.Texts.{PacketText}
use Rattle.swim_c.specs.Buffers.{Copied}
use Rattle.swim_c.specs.OwnPackets.{SaidOr}
use Rattle.swim_c.proofs.own_packets.packet_out.Goals as goal

pub returns-in-Ok : goal.returns-in-Ok
returns-in-Ok c =
    let bytes = c.in-Ok.ensures in
    SaidOr.said (subst (λ (b : List ℕ). PacketText b c.args.packet.now) bytes.canonical bytes.text)
    (subst (λ (b : List ℕ). Copied b c.args.out.now c.copy_out.new.out c.copy_out.result.status c.copy_out.result.len)
    (c.deref.ensures.value ∙ bytes.canonical) c.copy_out.ensures)
