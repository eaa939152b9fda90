use Rattle.capture.proofs.Gathering.{finishes_of}
use Rattle.capture.proofs.flows.Flows.finish.Goals as goal

pub returns-clause-of : goal.returns-clause-of
returns-clause-of c all of =
    let p = c.pop_first.ensures in
    finishes_of all _ _ c.pop_first.result of p.empty p.takes_out p.gone p.others
