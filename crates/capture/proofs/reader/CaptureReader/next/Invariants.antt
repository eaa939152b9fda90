use Rattle.capture.specs.Captures.{Passes}
use Rattle.capture.proofs.reader.CaptureReader.next.Given as goal

abbrev pub invariant-loop : goal.invariant-loop
invariant-loop g l = Passes l.fn.self (g.I.Inlet.seen l.fn.inlet) l.counter l.self (g.I.Inlet.seen l.inlet)
