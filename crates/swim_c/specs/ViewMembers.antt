-- What is copied of a member that a view shows, and how it is found.
use Rattle.std.specs.Prelude.{◌≡◌, ◌-◌, ◌<◌, ◌≤◌, ◌⊎◌, ℕ, List, [], ◌∷◌, length, take, min, replicate, slice_get, Option, Some, None, Bool}
use Rattle.std.specs.List.{flat_map}
use Rattle.swim_claim.specs.declared.claim.Claim.{Claim}
use Rattle.swim_claim.specs.declared.claim.Claim.TheVariants as claim
use Rattle.swim_claim.specs.Details.{DetailsValue}
use Rattle.swim_claim.specs.Limits.{max_name_len}
use Rattle.swim_claim.specs.Name.{IsLegalName}
use Rattle.swim_table.specs.Table.{Entries, TableOf}
use Rattle.memberlist_view.specs.declared.entry.Entry.{Entry}
use Rattle.memberlist_view.specs.declared.entry.State.{State}
use Rattle.memberlist_view.specs.declared.entry.State.TheVariants.{Noted, Seen, Alive, Suspect, Dead, Left}
use Rattle.memberlist_view.specs.Member.{entries_above}
use Rattle.memberlist_view.specs.Told as view
use Rattle.memberlist_view.specs.Told.{ViewValue, entry_of}
use Rattle.swim_c.specs.declared.buffer.Buffer.{Buffer}
use Rattle.swim_c.specs.declared.view.shown.Shown.{Shown}
use Rattle.swim_c.specs.Buffers.{Copied}
use Rattle.swim_c.specs.NewBytes.{OfferedNew}
use Rattle.swim_c.specs.Statuses as statuses
use Rattle.swim_c.specs.Unwrapping.{IsUnwritten}

-- the numbers of states, as in streams, and 4
abbrev pub number_of : State → ℕ
number_of Noted = 4
number_of Seen = 0
number_of Alive = 0
number_of (Suspect by) = 1
number_of (Dead by) = 2
number_of Left = 3

-- who suspects the member
abbrev pub accusers : State → List (List ℕ)
accusers Noted = []
accusers Seen = []
accusers Alive = []
accusers (Suspect by) = by
accusers (Dead by) = []
accusers Left = []

-- the last of its accusers, or who declared it dead
abbrev pub blamed : State → Option (List ℕ)
blamed Noted = None
blamed Seen = None
blamed Alive = None
blamed (Suspect by) = slice_get by (length by - 1)
blamed (Dead by) = by
blamed Left = None

-- what is copied of a name, if there is one
abbrev pub IsNamed : Option (List ℕ) → ℕ → List ℕ → Type 0
IsNamed None len bytes = len ≡ 0
IsNamed (Some name) len bytes = take len bytes ≡ name

-- what is copied of the details: zeros if there are none
abbrev pub IsPlaced : Option DetailsValue → Shown → Type 0
IsPlaced None m = (m.addr_len ≡ 0) × (m.port ≡ 0) × (m.meta_len ≡ 0) × (m.vsn_len ≡ 0)
IsPlaced (Some details) m = (take m.addr_len m.addr ≡ details.addr) × (m.port ≡ details.port)
    × (take m.meta_len m.meta ≡ details.meta) × (take m.vsn_len m.vsn ≡ details.vsn)

-- the data are those of the entry
pub record IsShown (name : List ℕ) (entry : Entry) (m : Shown) : Type 0 where
  pub name_is : take m.name_len m.name ≡ name
  pub state_is : m.state ≡ number_of entry.state
  pub inc_is : m.inc ≡ entry.inc
  pub since_is : m.since ≡ entry.since
  pub accusers_are : m.accusers ≡ min (length (accusers entry.state)) 255
  pub by_is : IsNamed (blamed entry.state) m.by_len m.by
  pub rivals_are : m.rivals ≡ min (length entry.rivals) 255
  pub place_is : IsPlaced entry.details m
  pub reserved_is : m.reserved ≡ replicate 32 0

-- The entry was copied (0), or there is none and the data are unchanged (67).
abbrev pub Finds : Option (List ℕ × Entry) → ℕ → Shown → Shown → Type 0
Finds None status old new = (status ≡ statuses.no_member) × (new ≡ old)
Finds (Some e) status old new = (status ≡ 0) × IsShown e.0 e.1 new

-- the same, of what is found for the name
abbrev pub named : List ℕ → Option Entry → Option (List ℕ × Entry)
named name None = None
named name (Some entry) = Some (name, entry)

-- The member of the name was copied; the view shows none, or there is no such name (67); or memory
-- was refused (10).
pub data FindDone (v : ViewValue) (name : List ℕ) (status : ℕ) (old new : Shown) : Type 0 where
  found : Finds (named name (entry_of v name)) status old new → FindDone v name status old new
  no_name : ¬ IsLegalName name → status ≡ statuses.no_member → new ≡ old
      → FindDone v name status old new
  memory : status ≡ statuses.memory → new ≡ old → FindDone v name status old new

-- the entries after the name; an empty name is before all
abbrev pub entries_after : List ℕ → view.Entries → view.Entries
entries_after [] entries = entries
entries_after (byte ∷ name) entries = entries_above (byte ∷ name) entries

-- The first member above the name was copied, or there is none (67); the name is too long (12); or
-- memory was refused (10).
pub data AfterDone (v : ViewValue) (name : List ℕ) (status : ℕ) (old new : Shown) : Type 0 where
  found : Finds (slice_get (entries_after name v.entries) 0) status old new
      → AfterDone v name status old new
  too_long : max_name_len < length name → status ≡ 12 → new ≡ old → AfterDone v name status old new
  memory : status ≡ statuses.memory → new ≡ old → AfterDone v name status old new

-- The accuser at this index was copied or did not fit, or there is none (71).
pub data Accuses (names : List (List ℕ)) (i : ℕ) (old new : List ℕ) (status len : ℕ) : Type 0 where
  given : (name : List ℕ) → slice_get names i ≡ Some name → Copied name old new status len
      → Accuses names i old new status len
  none : length names ≤ i → IsUnwritten statuses.no_item old new status len
      → Accuses names i old new status len

-- The accuser of the member of this name was copied or did not fit, or there is none. Or nothing
-- was copied: the view shows no such name (67), or memory was refused (10).
pub data AccuserDone (v : ViewValue) (name : List ℕ) (i : ℕ) (old new : List ℕ)
    (status len : ℕ) : Type 0 where
  known : (entry : Entry) → entry_of v name ≡ Some entry
      → Accuses (accusers entry.state) i old new status len
      → AccuserDone v name i old new status len
  unknown : (entry_of v name ≡ None) ⊎ (¬ IsLegalName name)
      → IsUnwritten statuses.no_member old new status len
      → AccuserDone v name i old new status len
  memory : IsUnwritten statuses.memory old new status len
      → AccuserDone v name i old new status len

-- ---- what a view says of its members

abbrev pub claims_in_state : List ℕ → ℕ → DetailsValue → State → List Claim
claims_in_state name inc details Noted = []
claims_in_state name inc details Seen = []
claims_in_state name inc details Alive = claim.Alive name inc details ∷ []
claims_in_state name inc details (Suspect by) =
    claim.Alive name inc details ∷ claim.Suspect name inc ∷ []
claims_in_state name inc details (Dead by) =
    claim.Alive name inc details ∷ claim.Confirm name inc ∷ []
claims_in_state name inc details Left = claim.Alive name inc details ∷ claim.Leave name inc ∷ []

-- of a member whose details are known: its Alive, and its state
abbrev pub claims_of : List ℕ → ℕ → Option DetailsValue → State → List Claim
claims_of name inc None state = []
claims_of name inc (Some details) state = claims_in_state name inc details state

abbrev pub claims_shown : view.Entries → List Claim
claims_shown entries = flat_map (λ e. claims_of e.0 e.1.inc e.1.details e.1.state) entries

-- The buffer has the stream for memberlist of the table of what the view says, with this user
-- state, or there is none for the same reasons as of a node's. Or memory was refused for that table
-- (10), and the buffer is unchanged.
pub data ViewOffered (v : ViewValue) (user : List ℕ) (join : Bool) (old new : Buffer)
    (status : ℕ) : Type 0 where
  offered : (table : Entries) → TableOf table (claims_shown v.entries)
      → OfferedNew 1 user table join old new status → ViewOffered v user join old new status
  memory : status ≡ statuses.memory → new ≡ old → ViewOffered v user join old new status
