use Rattle.capture.proofs.Yielding.{one_reading}
use Rattle.capture.proofs.laws.one_reading.Goals as goal

pub returns : goal.returns
returns c = one_reading
