use Rattle.capture.proofs.Written.{datagram_back}
use Rattle.capture.proofs.laws.datagram_read_back.Goals as goal

pub returns : goal.returns
returns c = datagram_back
