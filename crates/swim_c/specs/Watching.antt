-- What changes in a node's table, and the names that are noted for it.
use Rattle.std.specs.Prelude.{◌≡◌, ◌≢◌, ◌↔◌, ◌⊎◌, ◌+◌, ◌≤◌, ℕ, Bool, false, List, [], ◌∷◌, Option, Some, None, IsSome}
use Rattle.std.specs.Prelude.{MatchBool, length, if◌then◌else◌}
use Rattle.std.specs.Option.{option_and_then}
use Rattle.swim_claim.specs.Claim.{name_of}
use Rattle.swim_table.specs.Node.{NodeValue}
use Rattle.swim_table.specs.Standing.{Standing}
use Rattle.swim_table.specs.Table.{Entries, get}
use Rattle.swim_c.specs.declared.watching.Names.{Names}

-- the name is noted; if names are not noted, no name is
abbrev pub IsNoted : Option Entries → List ℕ → Type 0
IsNoted None name = ⊥
IsNoted (Some names) name = IsSome (get names name)

-- whether the table changed
abbrev pub TellsChange : Bool → Entries → Entries → Type 0
TellsChange news before after = MatchBool news (after ≢ before) (after ≡ before)

-- if names are noted, these are noted in addition to those of before
abbrev pub AddsNames : Option Entries → Option Entries → Option Names → Type 0
AddsNames None None named = Unit {0}
AddsNames None (Some new) named = ⊥
AddsNames (Some old) None named = ⊥
AddsNames (Some old) (Some new) None = ⊥
AddsNames (Some old) (Some new) (Some also) = (name : List ℕ)
    → IsSome (get new name) ↔ (IsSome (get old name) ⊎ IsSome (get also.names name))

-- if names are noted, a name is noted exactly if it was before or its entry changed
abbrev pub NotesChanges : Option Entries → Option Entries → Entries → Entries → Type 0
NotesChanges None None before after = Unit {0}
NotesChanges None (Some new) before after = ⊥
NotesChanges (Some old) None before after = ⊥
NotesChanges (Some old) (Some new) before after = (name : List ℕ)
    → IsSome (get new name) ↔ (IsSome (get old name) ⊎ (get after name ≢ get before name))

-- if names are noted, there are further ones, and room for both
abbrev pub HasRoomFor : Option Entries → Option Names → Type 0
HasRoomFor None named = Unit {0}
HasRoomFor (Some noted) None = ⊥
HasRoomFor (Some noted) (Some also) = length noted + length also.names ≤ also.room

-- On status 0 the flag is whether the node's table changed. Otherwise it is false.
pub record TellsNews (status : ℕ) (news : Bool) (before after : NodeValue) : Type 0 where
  pub done : status ≡ 0 → TellsChange news before.table after.table
  pub refused : status ≢ 0 → news ≡ false

-- On status 0 the names that changed are noted, if names are noted. Otherwise the noted names are
-- unchanged.
pub record Noted (old new : Option Entries) (status : ℕ) (before after : NodeValue) : Type 0 where
  pub done : status ≡ 0 → NotesChanges old new before.table after.table
  pub refused : status ≢ 0 → new ≡ old

-- from now on names are noted, with none yet, or they are not noted
abbrev pub start : Bool → Option Entries
start on = if on then Some [] else None

-- the first noted name in byte order
abbrev pub first_noted : Option Entries → Option (List ℕ)
first_noted None = None
first_noted (Some []) = None
first_noted (Some (entry ∷ rest)) = Some (name_of entry.top)

-- what the table has for the first noted name
abbrev pub next_entry : Entries → Option Entries → Option Standing
next_entry table changes = option_and_then (get table) (first_noted changes)

-- On status 0 the first noted name is no longer noted, and the others still are. Otherwise the
-- noted names are unchanged.
pub record LetsGo (old new : Option Entries) (status : ℕ) : Type 0 where
  pub done : status ≡ 0 → (name : List ℕ)
      → IsNoted new name ↔ (IsNoted old name × (first_noted old ≢ Some name))
  pub refused : status ≢ 0 → new ≡ old
