-- Exchanges over memory: what a dump is there, and why one is not made or not answered.
use Rattle.std.specs.Prelude.{◌≡◌, ◌≤◌, false, ℕ, List, ◌++◌, length}
use Rattle.swim_claim.specs.declared.claim.Claim.{Claim}
use Rattle.swim_table.specs.Dump.{dump_bytes}
use Rattle.swim_table.specs.Table.{Entries, Reduced, TableOf, IsLegalTable}
use Rattle.swim_sync.specs.declared.stop.Why.{Why}
use Rattle.swim_sync.specs.declared.stop.Why.TheVariants.{NoSuchNode, SameNode, TooManyRecords, Memory}
use Rattle.swim_wire.specs.Limits.{max_nodes}

-- the bytes are the canonical dump of the table, without the join flag
pub record IsOffer (table : Entries) (bytes : List ℕ) : Type 0 where
  pub legal : IsLegalTable table
  pub few : length (Reduced table) ≤ max_nodes
  pub dump : bytes ≡ dump_bytes table false

-- the table has the other one's claims too
abbrev pub TakesTable : Entries → Entries → Entries → Type 0
TakesTable before after other =
    (claims others : List Claim) → TableOf before claims → TableOf other others
    → TableOf after (claims ++ others)

-- a table has too many records, or memory ran out
abbrev pub Hinders : Type 0 → Why → Type 0
Hinders crowded NoSuchNode = ⊥
Hinders crowded SameNode = ⊥
Hinders crowded TooManyRecords = crowded
Hinders crowded Memory = Unit {0}
