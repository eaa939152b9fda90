use Rattle.std.proofs.Common.{◌≡◌, ◌∙◌, ◌<◌, Some, length, slice_get, slice_index_or, sym, ap}
use Rattle.std.specs.declared.cmp.Ordering.TheVariants.{Equal}
use Rattle.std.proofs.lemmas.Map.Lookups.{exact_bytes}
use Rattle.std.proofs.lemmas.Option.{slice_get_within, slice_get-get_or}
use Rattle.swim_claim.specs.Claim.{name_of}
use Rattle.swim_table.specs.Standing.{Standing}
use Rattle.swim_table.specs.Table.{name_cmp}
use Rattle.tiered_vec.specs.Tiers.{items, index_of}
use Rattle.swim_table.proofs.Lookups.{equal_from}
use Rattle.swim_table.proofs.placing.find_near.Goals as goal

-- the entry at the place is the one that was compared
pub returns-then-is_eq-clause-found : goal.returns-then-is_eq-clause-found
returns-then-is_eq-clause-found c =
    let entries = items c.args.entries.now in
    let i = index_of c.args.entries.now.blocks c.args.near in
    let entry = c.in-Some.entry.now in
    let there : slice_get entries i ≡ Some entry = sym c.in-Some.ensures in
    let within : i < length entries = slice_get_within entries i entry there in
    let tied : name_cmp (name_of entry.top) c.args.name.now ≡ Equal =
    sym c.order.ensures ∙ equal_from c.order.result (sym c.is_eq.ensures ∙ c.if-is_eq.true) in
    record {
      in_range = within;
      has_name =
          λ (d : Standing).
          (let at = sym there ∙ slice_get-get_or entries i d within in
          let is : slice_index_or entries i d ≡ entry = cc in
          exact_bytes (name_of (slice_index_or entries i d).top) c.args.name.now
          (ap (λ (e : Standing). name_cmp (name_of e.top) c.args.name.now) is ∙ tied));
    }
