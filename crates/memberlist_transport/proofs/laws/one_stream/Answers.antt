use Rattle.memberlist_transport.proofs.Streams.{one_stream}
use Rattle.memberlist_transport.proofs.laws.one_stream.Goals as goal

pub returns : goal.returns
returns c = one_stream
