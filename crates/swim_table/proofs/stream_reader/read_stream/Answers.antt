use Rattle.swim_pack.specs.Ends.{ConsumesText}
use Rattle.swim_wire.specs.Streams.{StreamText}
use Rattle.swim_table.proofs.WholeStreams.{read_alone}
use Rattle.swim_table.proofs.stream_reader.read_stream.Goals as goal

pub returns-clause-takes : goal.returns-clause-takes
returns-clause-takes g c =
    read_alone c.read_stream_into.result
    (λ claims join. ConsumesText (g.I.Inlet.seen c.args.inlet.now)
    (g.I.Inlet.seen c.read_stream_into.new.inlet) (λ b. StreamText b claims join))
    (rw c.new.ensures at c.read_stream_into.ensures.takes)
