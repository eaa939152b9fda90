use Rattle.swim_wire.specs.Streams.{StreamText}
use Rattle.swim_table.proofs.WholeStreams.{read_alone, dump_back}
use Rattle.swim_table.proofs.stream_reader.read_dump.Goals as goal

pub returns-clause-reads : goal.returns-clause-reads
returns-clause-reads c =
    read_alone c.read_dump_into.result
    (λ claims join. StreamText c.args.bytes.now claims join)
    (rw c.new.ensures at c.read_dump_into.ensures.reads)

pub returns-clause-back : goal.returns-clause-back
returns-clause-back c table join legal few is =
    dump_back c.read_dump_into.result c.args.bytes.now table join legal few is (rw c.new.ensures at c.read_dump_into.ensures.reads)
    c.read_dump_into.ensures.refuses
