use Rattle.swim_wire.proofs.SpelledTexts.{Fits-legal, StateText-with}
use Rattle.swim_wire.proofs.canonical.records.put_state_with_details.Goals as goal

pub returns-clause-text : goal.returns-clause-text
returns-clause-text c claim named told =
    StateText-with c.args.details.now claim (c.with.ensures.legal claim named told)
    (Fits-legal _ (rw told.details c.with.ensures.details))
