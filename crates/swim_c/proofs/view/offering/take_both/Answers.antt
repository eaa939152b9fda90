use Rattle.std.proofs.lemmas.Result.{on_ok_weaker}
use Rattle.swim_claim.specs.declared.claim.Claim.TheVariants.{Alive}
use Rattle.swim_c.proofs.Offering.{taken_both}
use Rattle.swim_c.proofs.view.offering.take_both.Goals as goal

pub returns : goal.returns
returns c =
    on_ok_weaker c.take.result
    (taken_both c.args.table.now c.take_alive.new.table c.take.new.table
    (Alive c.args.name.now c.args.inc c.args.details.now) c.args.said c.in_ok-take_alive.ensures)
    c.take.ensures
