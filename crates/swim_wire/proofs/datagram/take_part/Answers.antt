use Rattle.std.proofs.Common.{Ok}
use Rattle.swim_wire.proofs.Asking.{PacketText-asks}
use Rattle.swim_wire.proofs.WholePackets.{packet_reads}
use Rattle.swim_wire.proofs.datagram.take_part.Goals as goal

pub returns-in_err-map_err-clause-memory : goal.returns-in_err-map_err-clause-memory
returns-in_err-map_err-clause-memory c =
    λ _. PacketText-asks _ _ (packet_reads c.args.part.now (Ok c.in_ok-packet.packet) c.in_ok-packet.ensures.answers)
