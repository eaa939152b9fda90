use Rattle.std.proofs.Common.{rules}
use Rattle.std.proofs.lemmas.Fn.{always_returns_same}
use Rattle.swim_claim.specs.Claim.{name_of}
use Rattle.swim_table.specs.Standing.{Standing}
use Rattle.swim_table.specs.Table.{name_cmp}
use Rattle.swim_table.proofs.Place.{searched_place}
use Rattle.swim_table.proofs.placing.search_place.Goals as goal

-- the closure compares an entry's name
pub returns : goal.returns
returns c =
    let facts = c.find_by.ensures in
    let by_name = facts.position (λ (s : Standing). name_cmp (name_of s.top) c.args.name.now)
    (always_returns_same _ _ _ (λ a r f called. search rules)) in
    searched_place c.args.entries.now.blocks c.requires.ascending c.args.name.now _ facts.range by_name
