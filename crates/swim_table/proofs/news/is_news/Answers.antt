use Rattle.std.proofs.Common.{◌≡◌, ◌∙◌, Some, rules}
use Rattle.swim_table.specs.Table.{get}
use Rattle.swim_table.proofs.Lookups.{get_found}
use Rattle.swim_table.proofs.news.is_news.Goals as goal

pub covers-requires : goal.covers-requires
covers-requires c =
    let found : get c.args.table.now c.bytes.result.now ≡ Some c.in-Some.own.now = search rules in
    (get_found c.args.table.now c.bytes.result.now c.in-Some.own.now found).1 ∙ c.bytes.ensures.bytes ∙ c.name.ensures
