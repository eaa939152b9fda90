use Rattle.std.proofs.Common.{◌≡◌, Some, sym, ◌∙◌}
use Rattle.std.specs.declared.cmp.Ordering.TheVariants.{Equal}
use Rattle.swim_claim.specs.Details.{details_cmp}
use Rattle.swim_claim.proofs.DetailsOrder.{details_cmp_exact}
use Rattle.swim_table.proofs.Lookups.{equal_from}
use Rattle.swim_table.proofs.entry.is_same_home.Goals as goal

-- the details are the same if they compare as equal
pub returns-then-home-other : goal.returns-then-home-other
returns-then-home-other c = λ same.
    let home = c.in-Some-Some.home in
    let other = c.in-Some-Some.other in
    let tied : details_cmp home.details other.details ≡ Equal =
    equal_from (details_cmp home.details other.details) (sym c.eq.ensures ∙ same) in
    let details = details_cmp_exact home.details other.details tied in
    c.in-Some-Some.is-0 ∙ (λ j. Some (record { inc = c.if-home-other.true j; details = details j })) ∙ sym c.in-Some-Some.is-1
