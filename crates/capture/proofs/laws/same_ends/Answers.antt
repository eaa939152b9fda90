use Rattle.capture.proofs.SameEnds.{ends_same}
use Rattle.capture.proofs.laws.same_ends.Goals as goal

pub returns : goal.returns
returns c = ends_same
