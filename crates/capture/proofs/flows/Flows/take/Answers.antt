use Rattle.capture.proofs.Gathering.{takes_of}
use Rattle.capture.proofs.flows.Flows.take.Goals as goal

pub returns-clause-of : goal.returns-clause-of
returns-clause-of c all of =
    takes_of all _ _ _ _ c.hear.result of c.hear.ensures.hears c.hear.ensures.others
