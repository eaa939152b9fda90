-- The members that are suspected.
use Rattle.std.specs.Prelude.{◌≡◌, ℕ, ◌+◌, ◌<◌, ◌≤◌, Bool, true, false, List, length, Option, Some, None}
use Rattle.std.specs.Option.{option_map_or}
use Rattle.std.specs.Ordering.{is_eq}
use Rattle.std.specs.List.{count_by, find}
use Rattle.memberlist_view.specs.declared.entry.Entry.{Entry}
use Rattle.memberlist_view.specs.declared.entry.State.{State}
use Rattle.memberlist_view.specs.declared.entry.State.TheVariants as state
use Rattle.memberlist_view.specs.Rules.{name_cmp}
use Rattle.memberlist_view.specs.Told.{ViewValue, entry_of}
use Rattle.memberlist_member.specs.Suspicions.{IsDue, Span}
use Rattle.memberlist_member.specs.declared.suspicions.Suspect.{Suspect}

-- it has this name
abbrev pub is_suspect : List ℕ → Suspect → Bool
is_suspect name suspect = is_eq (name_cmp suspect.name name)

-- how many accusers count of the member with this name; none if it is not suspected
abbrev pub wanted_of : List ℕ → List Suspect → ℕ
wanted_of name suspects = option_map_or (λ s. s.suspicion.wanted) (find (is_suspect name) suspects) 0

-- it is shown as suspect
abbrev pub is_suspected : State → Bool
is_suspected (state.Suspect by) = true
is_suspected state.Noted = false
is_suspected state.Seen = false
is_suspected state.Alive = false
is_suspected (state.Dead by) = false
is_suspected state.Left = false

abbrev pub shows_suspect : ViewValue → List ℕ → Bool
shows_suspect view name = option_map_or (λ e. is_suspected e.state) (entry_of view name) false

-- each member that is shown as suspect is among these
abbrev pub AreWatched : ViewValue → List Suspect → Type 0
AreWatched view suspects = (name : List ℕ) → shows_suspect view name ≡ true → 1 ≤ count_by (is_suspect name) suspects

-- none is added but perhaps the one with this name
abbrev pub GrowsByAtMost : List ℕ → List Suspect → List Suspect → Type 0
GrowsByAtMost name old new =
    length new + count_by (is_suspect name) old ≤ length old + count_by (is_suspect name) new

-- the view says since when and by how many it is suspected; if it is not, the time is over
abbrev pub IsDueIn : State → ℕ → Span → ℕ → Type 0
IsDueIn (state.Suspect by) since span due = IsDue span (length by) since due
IsDueIn state.Noted since span due = due ≡ 0
IsDueIn state.Seen since span due = due ≡ 0
IsDueIn state.Alive since span due = due ≡ 0
IsDueIn (state.Dead by) since span due = due ≡ 0
IsDueIn state.Left since span due = due ≡ 0

abbrev pub IsDueAt : Option Entry → Span → ℕ → Type 0
IsDueAt None span due = due ≡ 0
IsDueAt (Some entry) span due = IsDueIn entry.state entry.since span due

-- when the time of a suspect is over, by this view
abbrev pub IsDueBy : ViewValue → Suspect → ℕ → Type 0
IsDueBy view suspect due = IsDueAt (entry_of view suspect.name) suspect.suspicion due

-- its time is over
pub record IsOver (view : ViewValue) (now : ℕ) (suspect : Suspect) : Type 0 where
  pub due : ℕ
  pub is : IsDueBy view suspect due
  pub over : due ≤ now

-- its time is not over
pub record IsLater (view : ViewValue) (now : ℕ) (suspect : Suspect) : Type 0 where
  pub due : ℕ
  pub is : IsDueBy view suspect due
  pub later : now < due

-- its time is over then or later
pub record IsNotBefore (view : ViewValue) (first : ℕ) (suspect : Suspect) : Type 0 where
  pub due : ℕ
  pub is : IsDueBy view suspect due
  pub late : first ≤ due
