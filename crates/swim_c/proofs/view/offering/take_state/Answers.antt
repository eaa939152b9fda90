use Rattle.std.proofs.Common.{◌∙◌, ◌∷◌, [], sym, ap}
use Rattle.std.proofs.lemmas.Result.{on_ok_weaker}
use Rattle.swim_claim.specs.declared.claim.Claim.TheVariants.{Alive, Suspect, Confirm, Leave}
use Rattle.swim_c.specs.ViewMembers.{claims_in_state}
use Rattle.swim_c.proofs.Offering.{taken_as}
use Rattle.swim_c.proofs.view.offering.take_state.Goals as goal

pub returns-in-Alive : goal.returns-in-Alive
returns-in-Alive c =
    let said = claims_in_state c.args.name.now c.args.inc c.args.details.now in
    on_ok_weaker c.take_alive.result (taken_as c.args.table.now c.take_alive.new.table _
    (said c.args.state.now) (ap said (sym c.in-Alive.is))) c.take_alive.ensures

pub returns-in_ok-try_clone-in-Suspect : goal.returns-in_ok-try_clone-in-Suspect
returns-in_ok-try_clone-in-Suspect c =
    let said = claims_in_state c.args.name.now c.args.inc c.args.details.now in
    let alive = Alive c.args.name.now c.args.inc c.args.details.now in
    on_ok_weaker c.take_both.result
    (taken_as c.args.table.now c.take_both.new.table _ (said c.args.state.now)
    ((λ i. alive ∷ Suspect (c.in_ok-try_clone-in-Suspect.ensures i) c.args.inc ∷ []) ∙ ap said (sym c.in-Suspect.is)))
    c.take_both.ensures

pub returns-in_ok-try_clone-in-Dead : goal.returns-in_ok-try_clone-in-Dead
returns-in_ok-try_clone-in-Dead c =
    let said = claims_in_state c.args.name.now c.args.inc c.args.details.now in
    let alive = Alive c.args.name.now c.args.inc c.args.details.now in
    on_ok_weaker c.take_both-in-Dead.result
    (taken_as c.args.table.now c.take_both-in-Dead.new.table _ (said c.args.state.now)
    ((λ i. alive ∷ Confirm (c.in_ok-try_clone-in-Dead.ensures i) c.args.inc ∷ []) ∙ ap said (sym c.in-Dead.is)))
    c.take_both-in-Dead.ensures

pub returns-in_ok-try_clone-in-Left : goal.returns-in_ok-try_clone-in-Left
returns-in_ok-try_clone-in-Left c =
    let said = claims_in_state c.args.name.now c.args.inc c.args.details.now in
    let alive = Alive c.args.name.now c.args.inc c.args.details.now in
    on_ok_weaker c.take_both-in-Left.result
    (taken_as c.args.table.now c.take_both-in-Left.new.table _ (said c.args.state.now)
    ((λ i. alive ∷ Leave (c.in_ok-try_clone-in-Left.ensures i) c.args.inc ∷ []) ∙ ap said (sym c.in-Left.is)))
    c.take_both-in-Left.ensures
