use Rattle.swim_table.proofs.Refuting.{same_details}
use Rattle.swim_table.proofs.node.has_home_of.Goals as goal

pub returns-in-Some : goal.returns-in-Some
returns-in-Some c = rw c.eq.ensures (same_details _ c.in-Some.home.now c.args.details.now c.in-Some.ensures)
