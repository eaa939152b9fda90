use Rattle.std.proofs.Common.{◌∷◌, [], ap}
use Rattle.std.proofs.lemmas.Result.{on_ok_weaker}
use Rattle.swim_claim.specs.declared.claim.Claim.{Claim}
use Rattle.swim_c.proofs.Offering.{taken_as}
use Rattle.swim_c.proofs.view.offering.take_alive.Goals as goal

pub returns : goal.returns
returns c =
    on_ok_weaker c.take.result (taken_as c.args.table.now c.take.new.table _ _
    (ap (λ (claim : Claim). claim ∷ []) c.in_ok-alive.ensures))
    c.take.ensures
