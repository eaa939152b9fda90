use Rattle.std.proofs.Common.{◌∙◌, sym, subst, Some}
use Rattle.swim_claim.specs.Claim.{name_of}
use Rattle.tiered_vec.specs.Tiers.{items, index_of}
use Rattle.swim_table.specs.Place.{IsAt, IsGapFor}
use Rattle.swim_table.proofs.Place.{get_at, get_in_gap}
use Rattle.swim_table.proofs.ReadingNews.{told_known, unknown}
use Rattle.swim_table.proofs.news_reader.look_up.Goals as goal

pub returns-in-Ok-clause-known : goal.returns-in-Ok-clause-known
returns-in-Ok-clause-known c =
    let table = items c.args.entries.now in
    let i = index_of c.args.entries.now.blocks c.in-Ok.place in
    let at : IsAt table (name_of c.args.claim.now) i = subst
    (λ n. IsAt table n i) (c.bytes.ensures.bytes ∙ c.name.ensures.name) c.in-Ok.ensures.found in
    let entry = c.get_at.result.now in
    told_known table c.args.claim.now entry c.covers_claim-known.result
    (get_at table (name_of c.args.claim.now) i entry c.requires.ascending at
    ∙ (λ t. Some (sym c.get_at.ensures t))) c.covers_claim-known.ensures

pub returns-in-Err-clause-known : goal.returns-in-Err-clause-known
returns-in-Err-clause-known c =
    let table = items c.args.entries.now in
    let i = index_of c.args.entries.now.blocks c.in-Err.field-0 in
    let gap : IsGapFor table (name_of c.args.claim.now) i =
    subst (λ n. IsGapFor table n i) (c.bytes.ensures.bytes ∙ c.name.ensures.name) c.in-Err.ensures.absent in
    unknown table c.args.claim.now (get_in_gap table (name_of c.args.claim.now) i gap)
