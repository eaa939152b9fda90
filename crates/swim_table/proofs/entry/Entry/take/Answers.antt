use Rattle.std.proofs.Common.{◌≡◌, ◌∙◌, sym, subst, ap}
use Rattle.swim_claim.specs.Claim.{name_of}
use Rattle.swim_table.specs.Standing.{Standing}
use Rattle.swim_table.specs.Join.{combined, standing_of}
use Rattle.swim_table.specs.Prefix.{IsPrefixOf}
use Rattle.swim_table.proofs.Lookups.{combined_name}
use Rattle.swim_table.proofs.Tables.{standing_of_top}
use Rattle.swim_table.proofs.entry.Entry.take.Goals as goal

-- the name does not change
pub invariant_of-self : goal.invariant_of-self
invariant_of-self c =
    let old = c.self.inside.contents.value in
    let other = standing_of c.args.claim in
    let same : name_of old.top ≡ name_of other.top =
    ap (λ (s : Standing). name_of s.top) c.self.view_is ∙ c.requires ∙ ap name_of (sym (standing_of_top c.args.claim)) in
    let is : c.combine.new.self ≡ combined old other = c.combine.ensures.new
    ∙ (λ j. combined (c.deref_mut.ensures.value j) (c.new.ensures.standing j)) in
    let named = ap (λ (s : Standing). name_of s.top) is ∙ combined_name old other same in
    subst (IsPrefixOf c.self.inside.prefix) (sym named) c.self.invariant
