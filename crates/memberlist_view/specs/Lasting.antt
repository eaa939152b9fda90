-- How long what is shown lasts: until when a gone member stays so, and since when a state is so.
use Rattle.std.specs.Prelude.{◌≡◌, ℕ, ◌-◌, ◌<◌, Bool, true, false, if◌then◌else◌, Option, Some, None, IfSome, List}
use Rattle.swim_claim.specs.Details.{DetailsValue}
use Rattle.memberlist_view.specs.declared.entry.Entry.{Entry}
use Rattle.memberlist_view.specs.declared.entry.State.{State}
use Rattle.memberlist_view.specs.declared.entry.State.TheVariants as state
use Rattle.memberlist_view.specs.declared.heard.Heard.{Heard}
use Rattle.memberlist_view.specs.declared.heard.Said.TheVariants.{Alive}
use Rattle.memberlist_view.specs.Rules.{are_sound_versions, is_same_place, is_gone, has_left}

-- ---- a member that is dead or left

-- whether the details may be of the same place: if no details are known, they may be
abbrev pub may_be_here : Option DetailsValue → DetailsValue → Bool
may_be_here None details = true
may_be_here (Some old) details = is_same_place old details

-- whether they may be of another place
abbrev pub may_be_elsewhere : Option DetailsValue → DetailsValue → Bool
may_be_elsewhere None details = true
may_be_elsewhere (Some old) details = if is_same_place old details then false else true

-- How an Alive at the time brings back a member that is dead or left: it is greater at the same
-- place, it comes after more than the wait, or its place differs from that of one that left.
pub data Revives (wait : ℕ) (entry : Entry) (time inc : ℕ) (details : DetailsValue) : Type 0 where
  greater : may_be_here entry.details details ≡ true → entry.inc < inc
      → Revives wait entry time inc details
  late : is_gone entry.state ≡ true → wait < time - entry.since → 0 < inc
      → Revives wait entry time inc details
  moved : has_left entry.state ≡ true → may_be_elsewhere entry.details details ≡ true
      → Revives wait entry time inc details

-- an Alive of the name that counts, and brings the member back
abbrev pub IsRevival : ℕ → List ℕ → Entry → Heard → Type 0
IsRevival wait name entry heard = (inc : ℕ) × (details : DetailsValue) × (joins : Bool)
    × (heard.said ≡ Alive name inc details joins) × (are_sound_versions details.vsn ≡ true)
    × Revives wait entry heard.time inc details

-- The state, its incarnation and its time are as they were, and so are the details and what was
-- seen, if details were known.
pub record IsStill (entry after : Entry) : Type 0 where
  pub state : after.state ≡ entry.state
  pub inc : after.inc ≡ entry.inc
  pub since : after.since ≡ entry.since
  pub details : IfSome entry.details (λ details.
      (after.details ≡ Some details) × (after.seen ≡ entry.seen))

-- ---- since when

-- both alive, whether seen or said, both suspected, both dead, both left or both noted
abbrev pub is_same_kind : State → State → Bool
is_same_kind state.Noted state.Noted = true
is_same_kind state.Seen state.Seen = true
is_same_kind state.Seen state.Alive = true
is_same_kind state.Alive state.Seen = true
is_same_kind state.Alive state.Alive = true
is_same_kind (state.Suspect by) (state.Suspect others) = true
is_same_kind (state.Dead by) (state.Dead other) = true
is_same_kind state.Left state.Left = true
is_same_kind old new = false

-- The state is as it was before and since then, or it is another one since now.
pub data IsSince (old : Option Entry) (now : ℕ) (entry : Entry) : Type 0 where
  kept : (before : Entry) → old ≡ Some before → is_same_kind before.state entry.state ≡ true
      → entry.since ≡ before.since → IsSince old now entry
  began : IfSome old (λ before. is_same_kind before.state entry.state ≡ false)
      → entry.since ≡ now → IsSince old now entry
