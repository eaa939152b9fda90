-- What a node becomes after its table was lent.
use Rattle.std.specs.Borrow.{Lends, Fml, MutBor}
use Rattle.swim_table.specs.contracts.node.Node.{the_row}
use Rattle.swim_table.specs.contracts.table.Table.{the_row as table_row}
use Rattle.swim_table.specs.Node.{NodeValue}
use Rattle.swim_table.specs.Table.{Entries}

-- the node with this table
abbrev pub with_table : NodeValue → Entries → NodeValue
with_table node table = record node { table = table }

-- once the borrow r ends, the node has the table last written through r, and is otherwise unchanged
abbrev pub LendsTable : MutBor NodeValue → MutBor Entries → Fml
LendsTable node r = Lends the_row table_row node r (with_table node.now)
