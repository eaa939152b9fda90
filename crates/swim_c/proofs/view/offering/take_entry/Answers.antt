use Rattle.std.proofs.Common.{sym, ap}
use Rattle.std.proofs.lemmas.Result.{on_ok_weaker}
use Rattle.swim_c.specs.ViewMembers.{claims_of}
use Rattle.swim_c.proofs.Offering.{taken_as}
use Rattle.swim_c.proofs.view.offering.take_entry.Goals as goal

pub returns-in-Some : goal.returns-in-Some
returns-in-Some c =
    let entry = c.args.entry.now in
    on_ok_weaker c.take_state.result
    (taken_as c.args.table.now c.take_state.new.table _ _ (ap (λ o. claims_of c.args.name.now entry.inc o entry.state) (sym c.in-Some.is)))
    c.take_state.ensures
