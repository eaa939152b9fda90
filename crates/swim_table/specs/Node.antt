-- A member's node.
use Rattle.std.specs.Prelude.{◌≡◌, ℕ, List}
use Rattle.swim_claim.specs.Details.{DetailsValue}
use Rattle.swim_table.specs.Table.{Entries}

-- the member's name and details, and its table
pub record NodeValue : Type 0 where
  pub name : List ℕ
  pub details : DetailsValue
  pub table : Entries

-- the node still belongs to the same member
pub record SameMember (old new : NodeValue) : Type 0 where
  pub name : new.name ≡ old.name
  pub details : new.details ≡ old.details
