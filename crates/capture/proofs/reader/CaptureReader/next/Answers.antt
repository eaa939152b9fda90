use Rattle.std.proofs.Common.{◌≡◌, Some, None, inl, inr, refl, arith}
use Rattle.swim_pack.proofs.Composing.{Reads-error}
use Rattle.capture.specs.Captures.Passes.{none, more}
use Rattle.capture.proofs.Steps.{step-seen}
use Rattle.capture.proofs.reader.CaptureReader.next.Goals as goal

pub loop-init : goal.loop-init
loop-init g c = none

pub loop-preserved : goal.loop-preserved
loop-preserved g c =
    more c.loop.counter c.loop.self (g.I.Inlet.seen c.loop.inlet) c.step.new.self (g.I.Inlet.seen c.step.new.inlet) c.loop.invariant
    (step-seen c.loop.self c.step.new.self c.step.new.bytes.items None
    (rw (c.in-Ok-None.is, c.in-Ok-None.field-0-is) at c.step.ensures.exact))

pub returns-in-Ok-Some : goal.returns-in-Ok-Some
returns-in-Ok-Some g c = record {
  exact = record {
    count = c.loop.counter;
    at = c.loop.self;
    from = g.I.Inlet.seen c.loop.inlet;
    passed = c.loop.invariant;
    last =
        step-seen c.loop.self c.step.new.self c.step.new.bytes.items (Some c.in-Ok-Some.record)
        (rw (c.in-Ok-Some.is, c.in-Ok-Some.field-0-is) at c.step.ensures.exact);
  };
}

pub returns-in-Err-End : goal.returns-in-Err-End
returns-in-Err-End g c = record {
  exact = record {
    count = c.loop.counter;
    at = c.loop.self;
    from = g.I.Inlet.seen c.loop.inlet;
    passed = c.loop.invariant;
    last = (Reads-error (rw (c.in-Err-End.is, c.in-Err-End.field-0-is) at c.step.ensures.exact), rw c.in-Err-End.is at c.step.ensures.kept);
  };
}

pub returns-in-Err-Fault : goal.returns-in-Err-Fault
returns-in-Err-Fault g c =
    rw c.in-Err-Fault.field-0-is
    (record {
      exact = record {
        count = c.loop.counter;
        at = c.loop.self;
        from = g.I.Inlet.seen c.loop.inlet;
        passed = c.loop.invariant;
        last = (
          inl (Reads-error (rw (
            c.in-Err-Fault.is,
            c.in-Err-Fault.field-0-is,
          ) at c.step.ensures.exact)),
          rw c.in-Err-Fault.is at c.step.ensures.kept,
        );
      };
    })

pub returns : goal.returns
returns g c =
    let done : c.loop.counter ≡ 18446744073709551615 = omega arith in
    record {
      exact = record {
        count = c.loop.counter;
        at = c.loop.self;
        from = g.I.Inlet.seen c.loop.inlet;
        passed = c.loop.invariant;
        last = (inr (refl, done), refl);
      };
    }
