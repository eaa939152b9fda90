use Rattle.swim_c.proofs.Pieces.{carries_on}
use Rattle.swim_c.proofs.laws.progress_carries_on.Goals as goal

pub returns : goal.returns
returns c = carries_on
