use Rattle.swim_c.specs.ViewMembers.{ViewOffered}
use Rattle.swim_c.proofs.view.offering.offer.Goals as goal

pub returns-in-Ok : goal.returns-in-Ok
returns-in-Ok c = ViewOffered.offered c.in-Ok.table c.in-Ok.ensures c.offer_new.ensures
