-- Runs of state.go over one name, and a member's view of what it heard.
use Rattle.std.specs.Prelude.{◌≡◌, ◌≢◌, ⊤, ℕ, ◌≤◌, Option, List, [], ◌∷◌}
use Rattle.memberlist_view.specs.declared.heard.Heard.{Heard}
use Rattle.memberlist_view.specs.Heard.{about}
use Rattle.memberlist_view.specs.Member.{member_view_after}
use Rattle.memberlist_view.specs.Told.{ViewValue}
use Rattle.swim_laws.specs.State.{Node, Handles, Resets}

-- from a node at a time, by what is heard, to a node at a time; no timer ends
pub data Runs (wait : ℕ) (name : List ℕ) : ℕ → Option Node → List Heard → ℕ → Option Node → Type 0 where
  -- nothing is heard
  ends : (time : ℕ) (node : Option Node) → Runs wait name time node [] time node
  -- time passes, and resetNodes may come
  waits : (time later end : ℕ) (node next last : Option Node) (heard : List Heard) → time ≤ later
      → Resets wait later node next → Runs wait name later next heard end last
      → Runs wait name time node heard end last
  -- something about the name is handled
  hears : (end : ℕ) (node next last : Option Node) (first : Heard) (heard : List Heard)
      → about first.said ≡ name → Handles name first.time first.said node next
      → Runs wait name first.time next heard end last
      → Runs wait name first.time node (first ∷ heard) end last
  -- something about another name is
  passes : (end : ℕ) (node last : Option Node) (first : Heard) (heard : List Heard)
      → about first.said ≢ name → Runs wait name first.time node heard end last
      → Runs wait name first.time node (first ∷ heard) end last

-- from this time on, times do not go back
abbrev pub AreInOrder : ℕ → List Heard → Type 0
AreInOrder time [] = ⊤
AreInOrder time (first ∷ heard) = (time ≤ first.time) × AreInOrder first.time heard

-- the time of the last thing heard, or this one if nothing was
abbrev pub last_time : ℕ → List Heard → ℕ
last_time time [] = time
last_time time (first ∷ heard) = last_time first.time heard

-- the view after a member hears these things
abbrev pub view_by_member : ViewValue → List Heard → ViewValue
view_by_member view [] = view
view_by_member view (first ∷ heard) = view_by_member (member_view_after view first) heard

-- a member's view of these things
abbrev pub member_view : ℕ → List Heard → ViewValue
member_view wait heard = view_by_member (record { wait = wait; entries = [] }) heard
