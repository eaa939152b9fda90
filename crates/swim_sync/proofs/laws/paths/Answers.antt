use Rattle.swim_sync.proofs.Routes.{came, reached}
use Rattle.swim_sync.proofs.laws.paths.Goals as goal

pub returns : goal.returns
returns c = λ members start events claim k. (came members claim k start events, reached members claim k start events)
