use Rattle.swim_pack.specs.Composing.{same}
use Rattle.swim_pack.specs.Reading.{after_form}
use Rattle.swim_pack.proofs.Composing.{Reads-gives}
use Rattle.swim_pack.proofs.read.read_after.Goals as goal

pub returns-in-Fixed-clause-exact : goal.returns-in-Fixed-clause-exact
unfolding after_form
returns-in-Fixed-clause-exact g c = rw (c.in-Fixed.is, c.from.ensures) (Reads-gives {view = same} _)
