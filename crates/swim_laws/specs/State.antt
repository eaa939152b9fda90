-- memberlist's state.go as a relation: what a member knows of another name, and how that changes
-- when it handles a message or a record of a stream, when it forgets, and when the timer of a
-- suspicion ends. Left out are refuting, which only its own name needs; broadcasts; delegates, and
-- addresses that are not allowed; and DeadNodeReclaimTime, which is 0 by default.
use Rattle.std.specs.Prelude.{◌≡◌, ◌≢◌, ⊤, ℕ, ◌<◌, ◌≤◌, ◌-◌, ◌⊎◌, Bool, true, false, Option, Some, None, List, [], ◌∷◌, length}
use Rattle.std.specs.Prelude.{slice_index}
use Rattle.swim_claim.specs.Details.{DetailsValue}
use Rattle.memberlist_view.specs.declared.heard.Said.{Said}
use Rattle.memberlist_view.specs.declared.heard.Said.TheVariants.{Alive, Suspect, Dead, Left, Seen}
use Rattle.swim_laws.specs.Places.{IsSamePlace}

-- State
pub data NodeState : Type 0 where
  alive : NodeState
  suspect : NodeState
  dead : NodeState
  left : NodeState

-- nodeState: State and Incarnation; the address, the port, Meta and the versions; and StateChange,
-- none if it is the zero time
pub record Node : Type 0 where
  pub state : NodeState
  pub inc : ℕ
  pub details : DetailsValue
  pub changed : Option ℕ

-- DeadOrLeft
abbrev pub is_dead_or_left : NodeState → Bool
is_dead_or_left alive = false
is_dead_or_left suspect = false
is_dead_or_left dead = true
is_dead_or_left left = true

-- ---- aliveNode

-- "protocol version(s) are wrong": the least or the greatest is 0, or they are out of order. An
-- Alive has no versions, or six.
abbrev pub AreWrong : List ℕ → Type 0
AreWrong vsn = (2 ≤ length vsn)
    × ((slice_index vsn 0 ≡ 0) ⊎ (slice_index vsn 1 ≡ 0) ⊎ (slice_index vsn 1 < slice_index vsn 0))

-- "Update protocol versions if it arrived"
abbrev pub versions_after : List ℕ → List ℕ → List ℕ
versions_after known [] = known
versions_after known (v ∷ vs) = v ∷ vs

-- StateChange is set if the node was not alive
abbrev pub changed_after : NodeState → Option ℕ → ℕ → Option ℕ
changed_after alive changed time = changed
changed_after suspect changed time = Some time
changed_after dead changed time = Some time
changed_after left changed time = Some time

-- "Update the state and incarnation number"
abbrev pub updated : ℕ → ℕ → DetailsValue → Node → Node
updated time inc said node =
    record {
      state = alive;
      inc = inc;
      details = record said { vsn = versions_after node.details.vsn said.vsn };
      changed = changed_after node.state node.changed time;
    }

-- what an Alive at this incarnation, with these details, makes of the node
pub data AliveNode (time inc : ℕ) (said : DetailsValue) (old new : Option Node) : Type 0 where
  -- "Ignoring an alive message"
  wrong : AreWrong said.vsn → new ≡ old → AliveNode time inc said old new
  -- "store this node in our node map", as dead and at incarnation 0: an Alive at 0 does no more
  stored : ¬ AreWrong said.vsn → old ≡ None → inc ≡ 0
      → new ≡ Some (record { state = dead; inc = 0; details = said; changed = None })
      → AliveNode time inc said old new
  -- and a greater one is believed
  joined : ¬ AreWrong said.vsn → old ≡ None → 0 < inc
      → new ≡ Some (record { state = alive; inc = inc; details = said; changed = Some time })
      → AliveNode time inc said old new
  -- "Updating address for left or failed node", at whatever incarnation
  moved : (node : Node) → ¬ AreWrong said.vsn → old ≡ Some node → ¬ IsSamePlace node.details said
      → node.state ≡ left → new ≡ Some (updated time inc said node)
      → AliveNode time inc said old new
  -- "Conflicting address"
  conflict : (node : Node) → ¬ AreWrong said.vsn → old ≡ Some node
      → ¬ IsSamePlace node.details said → node.state ≢ left → new ≡ old
      → AliveNode time inc said old new
  -- "Bail if the incarnation number is older, and this is not about us": also if it is the same
  older : (node : Node) → ¬ AreWrong said.vsn → old ≡ Some node → IsSamePlace node.details said
      → inc ≤ node.inc → new ≡ old → AliveNode time inc said old new
  newer : (node : Node) → ¬ AreWrong said.vsn → old ≡ Some node → IsSamePlace node.details said
      → node.inc < inc → new ≡ Some (updated time inc said node)
      → AliveNode time inc said old new

-- ---- suspectNode

-- what a suspicion at this incarnation makes of the node
pub data SuspectNode (time inc : ℕ) (old new : Option Node) : Type 0 where
  -- "never heard about this node before"
  unknown : old ≡ None → new ≡ old → SuspectNode time inc old new
  -- "Ignore old incarnation numbers"
  older : (node : Node) → old ≡ Some node → inc < node.inc → new ≡ old
      → SuspectNode time inc old new
  -- "a suspicion timer we can confirm": there is one while the node is suspect
  confirmed : (node : Node) → old ≡ Some node → node.inc ≤ inc → node.state ≡ suspect → new ≡ old
      → SuspectNode time inc old new
  -- "Ignore non-alive nodes"
  gone : (node : Node) → old ≡ Some node → node.inc ≤ inc → is_dead_or_left node.state ≡ true
      → new ≡ old → SuspectNode time inc old new
  -- "Update the state"
  suspected : (node : Node) → old ≡ Some node → node.inc ≤ inc → node.state ≡ alive
      → new ≡ Some (record node { state = suspect; inc = inc; changed = Some time })
      → SuspectNode time inc old new

-- ---- deadNode

-- what a death, or a leave, at this incarnation makes of the node
pub data DeadNode (end : NodeState) (time inc : ℕ) (old new : Option Node) : Type 0 where
  -- "never heard about this node before"
  unknown : old ≡ None → new ≡ old → DeadNode end time inc old new
  -- "Ignore old incarnation numbers"
  older : (node : Node) → old ≡ Some node → inc < node.inc → new ≡ old
      → DeadNode end time inc old new
  -- "Ignore if node is already dead"
  gone : (node : Node) → old ≡ Some node → node.inc ≤ inc → is_dead_or_left node.state ≡ true
      → new ≡ old → DeadNode end time inc old new
  -- "Update the state"
  ended : (node : Node) → old ≡ Some node → node.inc ≤ inc → is_dead_or_left node.state ≡ false
      → new ≡ Some (record node { state = end; inc = inc; changed = Some time })
      → DeadNode end time inc old new

-- ---- what is handled, and what a member does on its own

-- what was said about the name makes this of the node
pub data Handles (name : List ℕ) (time : ℕ) (said : Said) (old new : Option Node) : Type 0 where
  -- handleAlive; mergeState of a record that says alive
  said_alive : (inc : ℕ) (details : DetailsValue) (joins : Bool)
      → said ≡ Alive name inc details joins → AliveNode time inc details old new → Handles name time said old new
  -- handleSuspect; mergeState of a record that says suspect
  said_suspect : (inc : ℕ) (from : Option (List ℕ)) → said ≡ Suspect name inc from
      → SuspectNode time inc old new → Handles name time said old new
  -- mergeState of a record that says dead: "we prefer to suspect that node"
  said_dead_in_record : (inc : ℕ) → said ≡ Dead name inc None → SuspectNode time inc old new
      → Handles name time said old new
  -- handleDead
  said_dead : (inc : ℕ) (from : List ℕ) → said ≡ Dead name inc (Some from) → from ≢ name
      → DeadNode dead time inc old new → Handles name time said old new
  -- "send by the node itself, mark it is left instead of dead"
  said_dead_itself : (inc : ℕ) → said ≡ Dead name inc (Some name) → DeadNode left time inc old new
      → Handles name time said old new
  -- the same; mergeState of a record that says left
  said_left : (inc : ℕ) → said ≡ Left name inc → DeadNode left time inc old new
      → Handles name time said old new
  -- state.go does not see from where packets come
  only_seen : (place : DetailsValue) → said ≡ Seen name place → new ≡ old
      → Handles name time said old new

-- GossipToTheDeadTime is over since then
abbrev pub IsOver : ℕ → ℕ → Option ℕ → Type 0
IsOver wait time None = ⊤
IsOver wait time (Some changed) = wait < time - changed

-- resetNodes, which may come at any time: one that is dead, or left in newer versions, for longer
-- than the wait is deregistered
pub data Resets (wait time : ℕ) (old new : Option Node) : Type 0 where
  forgotten : (node : Node) → old ≡ Some node → is_dead_or_left node.state ≡ true
      → IsOver wait time node.changed → new ≡ None → Resets wait time old new
  kept : new ≡ old → Resets wait time old new

-- the end of the timer of a suspicion: "suspect timeout reached"
pub data TimesOut (time : ℕ) (old new : Option Node) : Type 0 where
  failed : (node : Node) → old ≡ Some node → node.state ≡ suspect
      → DeadNode dead time node.inc old new → TimesOut time old new
