-- What a member does that an observer does not: it believes nothing of a name that it does not
-- know, and forgets members that are gone.
use Rattle.std.specs.Prelude.{ℕ, Bool, true, false, not, ◌||◌, if◌then◌else◌, Option, Some, None, List, [], ◌∷◌}
use Rattle.std.specs.BTreeMap.Range.{entries_between}
use Rattle.std.specs.List.{filter}
use Rattle.std.specs.declared.ops.Bound.TheVariants.{Excluded, Unbounded}
use Rattle.memberlist_view.specs.declared.entry.Entry.{Entry}
use Rattle.memberlist_view.specs.declared.entry.State.{State}
use Rattle.memberlist_view.specs.declared.entry.State.TheVariants as state
use Rattle.memberlist_view.specs.declared.event.Event.{Event}
use Rattle.memberlist_view.specs.declared.heard.Heard.{Heard}
use Rattle.memberlist_view.specs.declared.heard.Said.{Said}
use Rattle.memberlist_view.specs.declared.heard.Said.TheVariants.{Alive, Suspect, Dead, Left, Seen}
use Rattle.memberlist_view.specs.Heard.{about}
use Rattle.memberlist_view.specs.Rules.{name_cmp, is_forgotten}
use Rattle.memberlist_view.specs.Told.{Entries, ViewValue, entry_of, event_of, view_after}

abbrev pub is_alive : Said → Bool
is_alive (Alive name inc details joins) = true
is_alive (Suspect name inc from) = false
is_alive (Dead name inc from) = false
is_alive (Left name inc) = false
is_alive (Seen name place) = false

-- whether only its address is known, by an Alive at incarnation 0
abbrev pub is_noted : State → Bool
is_noted state.Noted = true
is_noted state.Seen = false
is_noted state.Alive = false
is_noted (state.Suspect by) = false
is_noted (state.Dead by) = false
is_noted state.Left = false

abbrev pub is_known : Option Entry → Bool
is_known None = false
is_known (Some entry) = not (is_noted entry.state)

-- suspectNode, deadNode: a member knows a name by an Alive that it believed, and passes over what
-- else is said about a name that it does not know
abbrev pub is_heeded : ViewValue → Heard → Bool
is_heeded view heard = is_alive heard.said || is_known (entry_of view (about heard.said))

-- what a member hears of it: this, or nothing
abbrev pub heeded : ViewValue → Heard → List Heard
heeded view heard = if is_heeded view heard then heard ∷ [] else []

-- its event for a member
abbrev pub member_event_of : ViewValue → Heard → Option Event
member_event_of view heard = if is_heeded view heard then event_of view heard else None

-- a member's view after one more thing
abbrev pub member_view_after : ViewValue → Heard → ViewValue
member_view_after view heard = if is_heeded view heard then view_after view heard else view

-- resetNodes: a member is dropped that has been dead, or has left, for longer than the wait; and one
-- that is only noted, which memberlist keeps as dead since the beginning of time
abbrev pub is_dropped : ℕ → ℕ → Entry → Bool
is_dropped wait time entry = is_forgotten wait time entry || is_noted entry.state

-- the view without these members
abbrev pub view_without_dropped : ViewValue → ℕ → ViewValue
view_without_dropped view time =
    record view { entries = filter (λ e. not (is_dropped view.wait time e.1)) view.entries }

abbrev pub is_any_dropped : ℕ → ℕ → Option Entry → Bool
is_any_dropped wait time None = false
is_any_dropped wait time (Some entry) = is_dropped wait time entry

-- whether the view shows the name, and forgets it at this time
abbrev pub forgets : ViewValue → ℕ → List ℕ → Bool
forgets view time name = is_any_dropped view.wait time (entry_of view name)

-- what was heard about the names that the view does not forget at this time
abbrev pub about_others : ViewValue → ℕ → List Heard → List Heard
about_others view time heard = filter (λ h. not (forgets view time (about h.said))) heard

-- the entries of the names above this one
abbrev pub entries_above : List ℕ → Entries → Entries
entries_above name entries = entries_between name_cmp (Excluded name) Unbounded entries
