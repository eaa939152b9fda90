use Rattle.swim_wire.proofs.OneStream as streams
use Rattle.swim_wire.proofs.stream_law.one_stream.Goals as goal

pub returns : goal.returns
returns c = streams.one_stream
