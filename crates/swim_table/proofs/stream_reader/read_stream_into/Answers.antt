use Rattle.std.proofs.lemmas.Result.{err_from_is_err_and}
use Rattle.swim_pack.proofs.Composing.{UnlessFailed-weaker}
use Rattle.swim_pack.proofs.Ends.{Advances-trans}
use Rattle.swim_wire.specs.Reading.{wire_cause}
use Rattle.swim_table.proofs.Streams.{started, stepped, ended, none_wanted, step_reason}
use Rattle.swim_table.proofs.stream_reader.read_stream_into.Goals as goal

pub loop-next-init : goal.loop-next-init
loop-next-init g c =
    let begun = c.in_ok-reader.ensures in
    record {
      some = started (g.I.Inlet.seen c.args.inlet.now)
          (g.I.Inlet.seen c.begin_into.new.inlet) c.args.table c.in_ok-reader.reader begun.takes
          begun.fresh;
      end = c.begin_into.ensures.end;
    }

pub returns-in_err-next-clause-lacks : goal.returns-in_err-next-clause-lacks
returns-in_err-next-clause-lacks g c =
    let p = err_from_is_err_and c.from_residual-in_err-next.result c.from_residual-in_err-next.ensures.1 in
    rw (p.1, p.2) (UnlessFailed-weaker (wire_cause c.in_err-next.field-0.0)
    (none_wanted (g.I.Inlet.seen c.args.inlet.now)
    (g.I.Inlet.seen c.loop-next.inlet) c.args.table c.loop-next.reader c.loop-next.invariant.some)
    c.in_err-next.ensures.lacks)

pub returns-in_err-next-clause-reason : goal.returns-in_err-next-clause-reason
returns-in_err-next-clause-reason g c =
    let p = err_from_is_err_and c.from_residual-in_err-next.result c.from_residual-in_err-next.ensures.1 in
    rw (p.1, p.2)
    (step_reason c.in_err-next.field-0.0 (g.I.Inlet.seen c.args.inlet.now) (g.I.Inlet.seen c.loop-next.inlet) c.args.table
    c.loop-next.reader c.loop-next.invariant.some c.in_err-next.ensures.reason)

pub returns-in_err-next-clause-end : goal.returns-in_err-next-clause-end
returns-in_err-next-clause-end g c = Advances-trans _ _ _ c.loop-next.invariant.end c.step.ensures.end

pub loop-next-preserved : goal.loop-next-preserved
loop-next-preserved g c = record {
  some =
      stepped (g.I.Inlet.seen c.args.inlet.now) (g.I.Inlet.seen c.loop-next.inlet) (g.I.Inlet.seen c.step.new.inlet)
      c.args.table c.loop-next.reader c.in-More.next c.loop-next.invariant.some (rw c.in-More.is at c.in_ok-next.ensures.takes);
  end = Advances-trans _ _ _ c.loop-next.invariant.end c.step.ensures.end;
}

pub returns-in-End-clause-takes : goal.returns-in-End-clause-takes
returns-in-End-clause-takes g c =
    ended (g.I.Inlet.seen c.args.inlet.now) (g.I.Inlet.seen c.loop-next.inlet) (g.I.Inlet.seen c.step.new.inlet)
    c.args.table c.loop-next.reader c.in-End.table c.in-End.join c.loop-next.invariant.some (rw c.in-End.is at c.in_ok-next.ensures.takes)

pub returns-in-End-clause-end : goal.returns-in-End-clause-end
returns-in-End-clause-end g c = Advances-trans _ _ _ c.loop-next.invariant.end c.step.ensures.end
