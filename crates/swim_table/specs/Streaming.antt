-- A stream of which some records were read.
use Rattle.std.specs.Prelude.{ℕ}
use Rattle.swim_wire.specs.declared.stream.Header.{Header}
use Rattle.swim_table.specs.Table.{Entries}

-- the header, how many records are still to come, and the table of the claims read so far
pub record Streaming : Type 0 where
  pub header : Header
  pub left : ℕ
  pub table : Entries
