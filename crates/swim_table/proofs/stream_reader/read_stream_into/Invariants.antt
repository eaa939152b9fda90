use Rattle.swim_pack.specs.Ends.{Advances}
use Rattle.swim_table.proofs.Streams.{ReadSome}
use Rattle.swim_table.proofs.stream_reader.read_stream_into.Given as goal

abbrev pub invariant-loop-next : goal.invariant-loop-next
invariant-loop-next g l = record {
  some : ReadSome (g.I.Inlet.seen l.fn.inlet) (g.I.Inlet.seen l.inlet) l.fn.table l.reader;
  end : Advances (g.I.Inlet.seen l.fn.inlet) (g.I.Inlet.seen l.inlet);
}

abbrev pub decreases-loop-next : goal.decreases-loop-next
decreases-loop-next g l = l.reader.left
