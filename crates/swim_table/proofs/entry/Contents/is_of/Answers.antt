use Rattle.std.proofs.Common.{◌≡◌, ◌∙◌, Some, sym, ap, rules}
use Rattle.swim_claim.specs.Claim.{name_of, inc_of, kind_of, details_of}
use Rattle.swim_claim.specs.Details.{details_cmp}
use Rattle.swim_claim.proofs.DetailsOrder.{details_cmp_exact}
use Rattle.std.specs.declared.cmp.Ordering.TheVariants.{Equal}
use Rattle.swim_table.proofs.Combined.{alone, top_of-name}
use Rattle.swim_table.proofs.Lookups.{equal_from}
use Rattle.swim_table.proofs.entry.Contents.is_of.Goals as goal

-- the details are the same if they compare as equal
pub returns-in-Some-Some : goal.returns-in-Some-Some
returns-in-Some-Some c = λ same.
    let claim = c.args.claim.now in
    let own = c.self.inside in
    let home = c.in-Some-Some.home in
    let theirs = c.in-Some-Some.details.now in
    let tied : details_cmp home.details theirs ≡ Equal = equal_from (details_cmp home.details theirs) (sym c.eq.ensures ∙ same) in
    let details = details_cmp_exact home.details theirs tied in
    let kinds : own.kind ≡ kind_of claim = search rules in
    let incs : own.inc ≡ inc_of claim = search rules in
    let some : details_of claim ≡ Some theirs = search rules in
    let names : own.name ≡ name_of claim =
    sym (top_of-name own.name own.kind own.inc own.home) ∙ ap (λ t. name_of t.top) c.self.view_is ∙ c.requires in
    rw (← c.self.view_is, c.in-Some-Some.is-1)
    (alone own.name own.kind own.inc home claim theirs
    (rw c.in-Some-Some.is-1 at c.self.invariant.alive_is_home) names kinds incs some details)
