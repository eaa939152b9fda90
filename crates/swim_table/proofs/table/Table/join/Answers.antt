use Rattle.std.proofs.Common.{◌≡◌, [], ◌∙◌, sym, ap, subst}
use Rattle.swim_table.specs.Table.{IsLegalTable}
use Rattle.swim_table.specs.Join.{Join}
use Rattle.swim_table.proofs.Merging.{merge_is_Join}
use Rattle.swim_table.proofs.Tables.{TableOf-table_of, TableOf-Join}
use Rattle.swim_table.proofs.table.Table.join.Goals as goal

pub returns-then-is_empty-clause-join : goal.returns-then-is_empty-clause-join
returns-then-is_empty-clause-join c =
    let empty : c.args.self.now ≡ [] = c.is_empty.ensures.0 c.if-is_empty.true in
    let legal : IsLegalTable c.args.other = subst IsLegalTable c.drop.view_is c.drop.invariant in
    c.drop.view_is ∙ merge_is_Join [] c.args.other (TableOf-table_of []) legal.own ∙ ap (λ t. Join t c.args.other) (sym empty)

pub returns-then-is_empty-clause-all : goal.returns-then-is_empty-clause-all
returns-then-is_empty-clause-all c = λ claims others h g.
    rw (returns-then-is_empty-clause-join c) (TableOf-Join c.args.self.now c.args.other claims others h g)
