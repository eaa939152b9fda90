use Rattle.swim_wire.specs.Slots.{slots_of}
use Rattle.swim_wire.proofs.WholeReads.{Reads-wrong_type}
use Rattle.swim_wire.proofs.stream.read_header_map.Goals as goal

pub returns-else-found-eq-PUSH_PULL_MESSAGE-clause-exact : goal.returns-else-found-eq-PUSH_PULL_MESSAGE-clause-exact
returns-else-found-eq-PUSH_PULL_MESSAGE-clause-exact g c = Reads-wrong_type {view = slots_of} _ _ c.if-found-eq-PUSH_PULL_MESSAGE.false
