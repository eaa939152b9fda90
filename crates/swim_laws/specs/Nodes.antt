-- A view as a member's nodes.
use Rattle.std.specs.Prelude.{⊤, ℕ, if◌then◌else◌, Option, Some, None, List, IsSome}
use Rattle.swim_claim.specs.Details.{DetailsValue}
use Rattle.memberlist_view.specs.declared.entry.Entry.{Entry}
use Rattle.memberlist_view.specs.declared.entry.State.{State}
use Rattle.memberlist_view.specs.declared.entry.State.TheVariants as state
use Rattle.memberlist_view.specs.declared.heard.Said.{Said}
use Rattle.memberlist_view.specs.Rules.{is_forgotten}
use Rattle.swim_laws.specs.State.{NodeState, NodeState as node, Node, Handles, Resets}

-- one that is only noted is a node that was stored and not believed
abbrev pub state_of : State → NodeState
state_of state.Noted = node.dead
state_of state.Seen = node.alive
state_of state.Alive = node.alive
state_of (state.Suspect by) = node.suspect
state_of (state.Dead by) = node.dead
state_of state.Left = node.left

-- and its state never changed
abbrev pub changed_of : State → ℕ → Option ℕ
changed_of state.Noted since = None
changed_of state.Seen since = Some since
changed_of state.Alive since = Some since
changed_of (state.Suspect by) since = Some since
changed_of (state.Dead by) since = Some since
changed_of state.Left since = Some since

-- a node of these details; without details there is none
abbrev pub node_of : State → ℕ → ℕ → Option DetailsValue → Option Node
node_of s inc since None = None
node_of s inc since (Some details) =
    Some (record {
      state = state_of s;
      inc = inc;
      details = details;
      changed = changed_of s since;
    })

-- the node of what is shown for a name, without accusers, rivals and who declared it dead; none for
-- one that is forgotten at the time
abbrev pub node_at : ℕ → ℕ → Option Entry → Option Node
node_at wait time None = None
node_at wait time (Some entry) =
    if is_forgotten wait time entry then None
    else node_of entry.state entry.inc entry.since entry.details

-- a member shows no name that only packets showed
abbrev pub IsMemberState : State → Type 0
IsMemberState state.Noted = ⊤
IsMemberState state.Seen = ⊥
IsMemberState state.Alive = ⊤
IsMemberState (state.Suspect by) = ⊤
IsMemberState (state.Dead by) = ⊤
IsMemberState state.Left = ⊤

-- what a member may show for a name: it knows details of all names that it shows
abbrev pub IsOfMember : Option Entry → Type 0
IsOfMember None = ⊤
IsOfMember (Some entry) = IsSome entry.details × IsMemberState entry.state

-- the node becomes this when what was said is handled, and who was dead for longer than the wait
-- may be forgotten then
abbrev pub Becomes : ℕ → ℕ → List ℕ → Said → Option Node → Option Node → Type 0
Becomes wait time name said old new = (handled : Option Node)
    × Handles name time said old handled × Resets wait time handled new
