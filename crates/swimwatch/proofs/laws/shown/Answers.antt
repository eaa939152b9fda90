use Rattle.swimwatch.proofs.Saying.{ended}
use Rattle.swimwatch.proofs.laws.shown.Goals as goal

pub returns : goal.returns
returns c s first records seat has = ended s first records seat has
