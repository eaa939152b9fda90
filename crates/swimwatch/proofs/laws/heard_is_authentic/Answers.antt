use Rattle.swimwatch.proofs.Authentic.{datagram, stream, forged, forged_stream}
use Rattle.swimwatch.proofs.laws.heard_is_authentic.Goals as goal

pub returns-clause-datagram : goal.returns-clause-datagram
returns-clause-datagram c = datagram

pub returns-clause-stream : goal.returns-clause-stream
returns-clause-stream c = stream

pub returns-clause-forged : goal.returns-clause-forged
returns-clause-forged c = forged

pub returns-clause-forged_stream : goal.returns-clause-forged_stream
returns-clause-forged_stream c = forged_stream
