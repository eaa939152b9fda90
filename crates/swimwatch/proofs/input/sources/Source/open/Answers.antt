use Rattle.std.proofs.Common.{refl}
use Rattle.swimwatch.proofs.input.sources.Source.open.Goals as goal

pub returns : goal.returns
returns c = let k = c.in_ok-self.ensures in (refl, refl, (_, k))
