use Rattle.std.proofs.Common.{◌≡◌, ◌∙◌, Some, slice_get, rules}
use Rattle.swim_table.specs.Table.{get}
use Rattle.swim_table.proofs.Lookups.{get_found}
use Rattle.swim_c.proofs.Noting.{lets_go}
use Rattle.swim_c.proofs.next_change.next_noted.Goals as goal

pub returns-clause-changes : goal.returns-clause-changes
returns-clause-changes c =
    let first : slice_get c.args.noted.now 0 ≡ Some c.in-Some.first.now = search rules in
    let known : get c.args.node.now.table c.bytes.result.now ≡ Some c.in-Some-get.entry.now = search rules in
    lets_go c.args.noted.now c.forget.new.self c.in-Some.first.now c.bytes-2.result.now c.len.ensures.legal.own first
    (c.bytes-2.ensures.bytes ∙ c.name-2.ensures ∙ (get_found c.args.node.now.table c.bytes.result.now c.in-Some-get.entry.now known).1
    ∙ c.bytes.ensures.bytes ∙ c.name.ensures)
    c.forget.ensures.kept
