use Rattle.std.proofs.Common.{subst}
use Rattle.swim_table.specs.Join.{Join}
use Rattle.swim_table.specs.News.{AreChanges}
use Rattle.swim_table.specs.Table.{Entries}
use Rattle.swim_c.proofs.Noting.{named_tells}
use Rattle.swim_c.proofs.watching.Watched.news.Goals as goal

pub returns-clause-any : goal.returns-clause-any
returns-clause-any c =
    named_tells c.is_empty-any.result c.args.self.now.node.table c.args.other.now c.in_ok-names.names c.table-2.ensures.legal
    (subst (λ (t : Entries). AreChanges t (Join t c.args.other.now) c.in_ok-names.names) c.table-2.ensures.table c.in_ok-names.ensures)
    c.is_empty-any.ensures
