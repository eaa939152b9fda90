-- What a view makes of a refutation, and of what is older.
use Rattle.std.specs.Prelude.{◌≡◌, ⊤, ℕ, ◌<◌, true, Option, Some, None}
use Rattle.swim_claim.specs.Details.{DetailsValue}
use Rattle.memberlist_view.specs.declared.entry.Entry.{Entry}
use Rattle.memberlist_view.specs.declared.entry.State.TheVariants as state
use Rattle.memberlist_view.specs.declared.event.Event.{Event}
use Rattle.memberlist_view.specs.declared.heard.Said.{Said}
use Rattle.memberlist_view.specs.declared.heard.Said.TheVariants.{Alive, Suspect, Dead, Left, Seen}
use Rattle.memberlist_view.specs.Rules.{Change, change_of_entry, is_same_place}

-- the details that are known are from this place, or none are known
abbrev pub IsFromThere : Option DetailsValue → DetailsValue → Type 0
IsFromThere None details = ⊤
IsFromThere (Some known) details = is_same_place known details ≡ true

-- it says of an incarnation before this one that the member is suspect, dead or left
abbrev pub IsOlder : ℕ → Said → Type 0
IsOlder inc (Alive name older details joins) = ⊥
IsOlder inc (Suspect name older from) = older < inc
IsOlder inc (Dead name older from) = older < inc
IsOlder inc (Left name older) = older < inc
IsOlder inc (Seen name place) = ⊥

-- the member is held alive at this incarnation, and nothing older that is heard changes that
pub record HoldsAlive (wait inc : ℕ) (change : Change) : Type 0 where
  pub entry : Entry
  pub event : Event
  pub is : change ≡ Some (entry, event)
  pub alive : entry.state ≡ state.Alive
  pub at : entry.inc ≡ inc
  pub stays : (time : ℕ) (said : Said) → IsOlder inc said
      → change_of_entry wait time entry said ≡ None
