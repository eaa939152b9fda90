use Rattle.swim_wire.proofs.OneMessage.{packet_one, header_one, state_one, datagram_one}
use Rattle.swim_wire.proofs.laws.one_message.Goals as goal

pub returns-clause-packet : goal.returns-clause-packet
returns-clause-packet c = packet_one

pub returns-clause-header : goal.returns-clause-header
returns-clause-header c = header_one

pub returns-clause-state : goal.returns-clause-state
returns-clause-state c = state_one

pub returns-clause-datagram : goal.returns-clause-datagram
returns-clause-datagram c = datagram_one
