use Rattle.swim_wire.proofs.Lifting.{Key-err}
use Rattle.swim_wire.proofs.map.read_key_text.Goals as goal

pub returns-in-Err-clause-exact : goal.returns-in-Err-clause-exact
returns-in-Err-clause-exact g c = rw (c.fault_of_key.ensures) (Key-err c.in-Err.ensures.exact)
