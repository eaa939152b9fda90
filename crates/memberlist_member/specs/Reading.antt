-- What is read of a table.
use Rattle.std.specs.Prelude.{⊤, ℕ, List}
use Rattle.memberlist_member.specs.Tables.{BeginsWithTable}
use Rattle.memberlist_member.specs.declared.member.tables.Stream.{Stream}
use Rattle.memberlist_member.specs.declared.member.tables.Stream.TheVariants.{Table, Ended, Refused}

-- the records of a table
abbrev pub IsRead : Stream → List ℕ → Type 0
IsRead (Table claims join state) message = BeginsWithTable message claims.items
IsRead Ended message = ⊤
IsRead Refused message = ⊤
