-- Nodes that forget a name.
use Rattle.std.specs.Prelude.{◌≡◌, ◌≢◌, ◌↔◌, ℕ, List, Option, None, Some, IsSome}
use Rattle.swim_claim.specs.declared.claim.Claim.{Claim}
use Rattle.swim_table.specs.Node.{NodeValue, SameMember}
use Rattle.swim_table.specs.Table.{Entries, get, about_others, Reduced, TableOf}
use Rattle.swim_c.specs.Statuses as statuses

-- the table had the name, and is that of the claims taken in about other names
pub record ForgetsName (name : List ℕ) (before after : NodeValue) : Type 0 where
  pub had : IsSome (get before.table name)
  pub kept : TableOf after.table (about_others name (Reduced before.table))
  pub all : (claims : List Claim) → TableOf before.table claims
      → TableOf after.table (about_others name claims)
  pub member : SameMember before after

-- The name was forgotten (0), or the table has no such name and the node is unchanged (67).
pub data ForgetDone (name : List ℕ) (status : ℕ) (before after : NodeValue) : Type 0 where
  forgotten : status ≡ 0 → ForgetsName name before after → ForgetDone name status before after
  unknown : status ≡ statuses.no_member → get before.table name ≡ None → after ≡ before
      → ForgetDone name status before after

-- if names are noted, those of before are still noted, except this one
abbrev pub LeavesOut : List ℕ → Option Entries → Option Entries → Type 0
LeavesOut name None None = Unit {0}
LeavesOut name None (Some new) = ⊥
LeavesOut name (Some old) None = ⊥
LeavesOut name (Some old) (Some new) =
    (other : List ℕ) → IsSome (get new other) ↔ (IsSome (get old other) × (other ≢ name))

-- On status 0 the name is no longer noted, and the others still are. Otherwise the noted names are
-- unchanged.
pub record LetsNameGo (name : List ℕ) (old new : Option Entries) (status : ℕ) : Type 0 where
  pub done : status ≡ 0 → LeavesOut name old new
  pub refused : status ≢ 0 → new ≡ old
