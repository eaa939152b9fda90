use Rattle.swim_pack.proofs.Composing.{Reads-lift}
use Rattle.capture.specs.Captures.{fault_of, fault_cause}
use Rattle.capture.proofs.Steps.{causes}
use Rattle.capture.proofs.reader.CaptureReader.begin.Goals as goal

pub returns-in-Ok : goal.returns-in-Ok
returns-in-Ok g c = record { exact = rw c.in-Ok.is at (Reads-lift fault_cause fault_of causes c.read_begin.ensures) }

pub returns-in-Err : goal.returns-in-Err
returns-in-Err g c =
    record { exact = rw c.fault_of.ensures (rw c.in-Err.is at (Reads-lift fault_cause fault_of causes c.read_begin.ensures)) }
