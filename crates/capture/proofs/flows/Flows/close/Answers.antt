use Rattle.capture.proofs.Gathering.{closed_of, out_of}
use Rattle.capture.proofs.flows.Flows.close.Goals as goal

pub returns-clause-of : goal.returns-clause-of
returns-clause-of c all of = (
  closed_of all _ _ _ of c.remove.ensures.others c.remove.ensures.newer c.remove.ensures.none,
  out_of all _ _ _ of c.remove.ensures.others _ c.remove.ensures.flow,
)
