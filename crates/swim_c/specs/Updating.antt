-- A member's own details replaced, and a member that came back believed.
use Rattle.std.specs.Prelude.{◌≡◌, ◌≢◌, ◌<◌, ℕ, Bool, false, List, [], ◌∷◌, ◌++◌, None, Some}
use Rattle.std.specs.Option.{option_map, option_and_then}
use Rattle.swim_claim.specs.declared.claim.Claim.TheVariants.{Alive}
use Rattle.swim_claim.specs.Claim.{inc_of, details_of, name_of}
use Rattle.swim_claim.specs.Details.{DetailsValue}
use Rattle.swim_claim.specs.declared.claim.Claim.{Claim}
use Rattle.swim_table.specs.Node.{NodeValue, SameMember}
use Rattle.swim_table.specs.Standing.{Standing}
use Rattle.swim_table.specs.Table.{get, about_others, Reduced, TableOf}
use Rattle.swim_c.specs.Opening.{IsUnmade}
use Rattle.swim_c.specs.Statuses as statuses
use Rattle.swim_c.specs.Taking.{RefuteDone}

-- the node with these details
abbrev pub with_details : NodeValue → DetailsValue → NodeValue
with_details node details = record node { details = details }

-- The node has these details, and its table was made to say so, as by a refutation (0). Or it is
-- unchanged: the details are invalid; or no Alive with them can be taken in.
pub data UpdateDone (details : DetailsValue) (status : ℕ) (due : Bool) (inc : ℕ)
    (before after : NodeValue) : Type 0 where
  updated : status ≡ 0 → RefuteDone status due inc (with_details before details) after
      → UpdateDone details status due inc before after
  unmade : IsUnmade before.name details status → due ≡ false → inc ≡ 0 → after ≡ before
      → UpdateDone details status due inc before after
  refused : status ≢ 0 → RefuteDone status due inc (with_details before details)
      (with_details before details) → after ≡ before
      → UpdateDone details status due inc before after

-- the newest Alive of an entry, its home, has this incarnation and these details, and is newer than
-- its state
pub record IsBackAs (entry : Standing) (inc : ℕ) (details : DetailsValue) : Type 0 where
  pub inc_is : option_map inc_of entry.home ≡ Some inc
  pub details_is : option_and_then details_of entry.home ≡ Some details
  pub newer : inc_of entry.top < inc

-- the member came back
abbrev pub IsBack : Standing → Type 0
IsBack entry = (inc : ℕ) × (details : DetailsValue) × IsBackAs entry inc details

-- the claim is the newest Alive of a member that came back
abbrev pub IsItsAlive : Standing → Claim → Type 0
IsItsAlive entry claim = (inc : ℕ) × (details : DetailsValue) × IsBackAs entry inc details
    × (claim ≡ Alive (name_of entry.top) inc details)

-- the table is that of the claims about others, and of this one about the member
pub record Readmits (name : List ℕ) (claim : Claim) (before after : NodeValue) : Type 0 where
  pub kept : TableOf after.table (about_others name (Reduced before.table) ++ claim ∷ [])
  pub all : (claims : List Claim) → TableOf before.table claims
      → TableOf after.table (about_others name claims ++ claim ∷ [])
  pub member : SameMember before after

-- The member came back, and of all claims about it only its newest Alive is left (0). Or the node
-- is unchanged: it knows no such name (67), the member has not come back (73), or memory was
-- refused (10).
pub data ReadmitDone (name : List ℕ) (status : ℕ) (before after : NodeValue) : Type 0 where
  readmitted : (entry : Standing) (alive : Claim) → status ≡ 0
      → get before.table name ≡ Some entry → IsItsAlive entry alive
      → Readmits name alive before after → ReadmitDone name status before after
  unknown : status ≡ statuses.no_member → get before.table name ≡ None → after ≡ before
      → ReadmitDone name status before after
  not_back : (entry : Standing) → status ≡ statuses.not_back
      → get before.table name ≡ Some entry → ¬ IsBack entry → after ≡ before
      → ReadmitDone name status before after
  memory : (entry : Standing) → status ≡ statuses.memory → get before.table name ≡ Some entry
      → IsBack entry → after ≡ before → ReadmitDone name status before after
