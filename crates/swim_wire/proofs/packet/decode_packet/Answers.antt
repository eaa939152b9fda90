use Rattle.swim_wire.proofs.WholePackets.{packet_reads, packet_refuses, packet_reason, packet_exact}
use Rattle.swim_wire.proofs.packet.decode_packet.Goals as goal

pub returns-clause-reads : goal.returns-clause-reads
returns-clause-reads c = packet_reads _ _ c.decode_whole_packet.ensures.answers

pub returns-clause-refuses : goal.returns-clause-refuses
returns-clause-refuses c = packet_refuses _ _ c.decode_whole_packet.ensures.answers

pub returns-clause-reason : goal.returns-clause-reason
returns-clause-reason c = packet_reason _ _ c.decode_whole_packet.ensures.answers c.decode_whole_packet.ensures.memory

pub returns-clause-exact : goal.returns-clause-exact
returns-clause-exact c = packet_exact _ _ c.decode_whole_packet.ensures.answers
