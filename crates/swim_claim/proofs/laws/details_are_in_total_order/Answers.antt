use Rattle.swim_claim.specs.DetailsOrder.{details_cmp_total}
use Rattle.swim_claim.proofs.DetailsOrder.{details_cmp_exact}
use Rattle.swim_claim.proofs.laws.details_are_in_total_order.Goals as goal

pub returns-clause-total : goal.returns-clause-total
returns-clause-total c = details_cmp_total

pub returns-clause-exact : goal.returns-clause-exact
returns-clause-exact c = details_cmp_exact
