use Rattle.std.proofs.Common.{◌↔◌, ◌≢◌, refl, ◌∷◌, [], ap, ◌∙◌, rules}
use Rattle.std.proofs.lemmas.Result.{err_from_is_err_and}
use Rattle.swim_sync.specs.declared.event.Event.TheVariants.{Hear, HearAll}
use Rattle.swim_wire.specs.Checks.{BeginsWith}
use Rattle.swim_wire.specs.Packet.{PacketValue}
use Rattle.swim_wire.specs.PacketList.{packets_in, IsCompound}
use Rattle.swim_wire.specs.declared.datagram.Datagram.{Datagram}
use Rattle.swim_wire.specs.Texts.{DatagramText}
use Rattle.swim_wire.specs.declared.datagram.Datagram.TheVariants.{Packet, Compound}
use Rattle.swim_program.specs.Report.{what_of}
use Rattle.swim_script.specs.Script.HearsBytes.{packet, compound}
use Rattle.swim_script.proofs.Packets.{lone_packet}
use Rattle.swim_script.proofs.ScriptLines.{not_heard, wire_of_reading}
use Rattle.swim_script.proofs.script_line.event_of_datagram.Goals as goal

pub returns-in_err-compound-clause-refuses : goal.returns-in_err-compound-clause-refuses
returns-in_err-compound-clause-refuses c =
    let p = err_from_is_err_and c.from_residual.result c.from_residual.ensures.1 in
    rw p.1 (λ seen. not_heard _ c.args.datagram.now (c.in_err-compound.ensures.refuses (λ m. seen (p.2 ∙ ap what_of m))))

pub returns-in_err-compound-clause-kind : goal.returns-in_err-compound-clause-kind
returns-in_err-compound-clause-kind c =
    let p = err_from_is_err_and c.from_residual.result c.from_residual.ensures.1 in
    rw (p.1, p.2) (wire_of_reading c.in_err-compound.field-0.0 (λ e. absurd (search rules)))

pub returns-in-Packet-clause-reads : goal.returns-in-Packet-clause-reads
returns-in-Packet-clause-reads c =
    let bytes = c.args.datagram.now in
    let text : DatagramText bytes (c.in-Packet.packet ∷ []) = rw c.in-Packet.is at c.in_ok-compound.ensures.reads in
    let seven : IsCompound (Packet c.in-Packet.packet) ↔ BeginsWith 7 bytes = rw c.in-Packet.is at c.in_ok-compound.ensures.compound in
    packet c.in-Packet.packet (lone_packet bytes c.in-Packet.packet text seven.1) (ap (Hear c.args.node) c.into_claim.ensures)

-- what is not a packet by itself is a compound packet
not_alone : (d : Datagram) → ((p : PacketValue) → d ≢ Packet p) → IsCompound d
not_alone (Packet p) other = absurd (other p refl)
not_alone (Compound packets) other = tt

pub returns-in_ok-claims-in_default-clause-reads : goal.returns-in_ok-claims-in_default-clause-reads
returns-in_ok-claims-in_default-clause-reads c =
    let begins = c.in_ok-compound.ensures.compound.0 (not_alone c.in_ok-compound.compound c.in_default.not-Packet) in
    compound begins.0 (packets_in c.in_ok-compound.compound) begins.1 c.in_ok-compound.ensures.reads
    (ap (HearAll c.args.node) (c.new.ensures ∙ c.in_ok-claims-in_default.ensures))

pub returns-in_err-compound-clause-tells : goal.returns-in_err-compound-clause-tells
returns-in_err-compound-clause-tells c =
    let p = err_from_is_err_and c.from_residual.result c.from_residual.ensures.1 in
    rw p.1 (λ seen. (c.in_err-compound.field-0.0, c.in_err-compound.ensures.exact (λ m. seen (p.2 ∙ ap what_of m)), p.2))
