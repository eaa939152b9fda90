-- What events do to the nodes of a cluster, and why an event does not happen.
use Rattle.std.specs.Prelude.{◌≡◌, ◌⊎◌, ℕ, ◌-◌, ◌*◌, ◌<◌, Some, List, [], ◌∷◌, ◌++◌, length, map, set, take, slice_get}
use Rattle.swim_claim.specs.declared.claim.Claim.{Claim}
use Rattle.swim_table.specs.Lending.{with_table}
use Rattle.swim_table.specs.Node.{NodeValue}
use Rattle.swim_table.specs.Refuting.{IsDueInRange}
use Rattle.swim_table.specs.Table.{Entries, TableOf}
use Rattle.swim_sync.specs.declared.event.Event.{Event}
use Rattle.swim_sync.specs.declared.event.Event.TheVariants.{Hear, HearAll, Exchange, Half, Refute}
use Rattle.swim_sync.specs.declared.stop.Stop.{Stop}
use Rattle.swim_sync.specs.declared.stop.Why.{Why}
use Rattle.swim_sync.specs.declared.stop.Why.TheVariants.{NoSuchNode, SameNode, TooManyRecords, Memory}
use Rattle.swim_sync.specs.Exchanging.{HasTooMany}
use Rattle.swim_sync.specs.Heard.{Member, after, heard, heard_by}
use Rattle.swim_sync.specs.Levels.{level_list, all_heard}

-- who the node is
abbrev pub member_of : NodeValue → Member
member_of node = record { name = node.name; details = node.details }

-- who the nodes are
abbrev pub members_of : List NodeValue → List Member
members_of nodes = map member_of nodes

-- each node's table is the table of what it has heard
pub record TablesOf (nodes : List NodeValue) (lists : List (List Claim)) : Type 0 where
  pub number : length lists ≡ length nodes
  pub each : (k : ℕ) (node : NodeValue) → slice_get nodes k ≡ Some node
      → TableOf node.table (heard_by lists k)

-- each number in the event is that of a node
abbrev pub NamesNodes : ℕ → Event → Type 0
NamesNodes nodes (Hear k claim) = k < nodes
NamesNodes nodes (HearAll k claims) = k < nodes
NamesNodes nodes (Exchange j k) = (j < nodes) × (k < nodes)
NamesNodes nodes (Half j k) = (j < nodes) × (k < nodes)
NamesNodes nodes (Refute k) = k < nodes

-- an exchange of a node with itself
abbrev pub NamesOneTwice : Event → Type 0
NamesOneTwice (Hear k claim) = ⊥
NamesOneTwice (HearAll k claims) = ⊥
NamesOneTwice (Exchange j k) = j ≡ k
NamesOneTwice (Half j k) = j ≡ k
NamesOneTwice (Refute k) = ⊥

-- the event makes a dump of node x's table
abbrev pub Dumps : Event → ℕ → Type 0
Dumps (Hear k claim) x = ⊥
Dumps (HearAll k claims) x = ⊥
Dumps (Exchange j k) x = (x ≡ j) ⊎ (x ≡ k)
Dumps (Half j k) x = (x ≡ j) ⊎ (x ≡ k)
Dumps (Refute k) x = ⊥

-- if the nodes have heard these lists, the event names nodes, none twice, and no dump that it makes
-- has too many records
pub record CanHappen (lists : List (List Claim)) (event : Event) : Type 0 where
  pub named : NamesNodes (length lists) event
  pub differ : ¬ NamesOneTwice event
  pub few : (k : ℕ) (table : Entries) → Dumps event k → TableOf table (heard_by lists k)
      → ¬ HasTooMany table

-- each event can happen when its turn comes
abbrev pub EachCanHappen : List Member → List (List Claim) → List Event → Type 0
EachCanHappen members lists [] = Unit {0}
EachCanHappen members lists (event ∷ events) = CanHappen lists event
    × EachCanHappen members (after members lists event) events

-- The events happened: the nodes have the same members, each table is that of what its node has
-- heard, and each event could happen.
pub record Ran (old new : List NodeValue) (events : List Event) : Type 0 where
  pub members : members_of new ≡ members_of old
  pub tables : (start : List (List Claim)) → TablesOf old start
      → TablesOf new (heard (members_of old) start events)
  pub could : (start : List (List Claim)) → TablesOf old start
      → EachCanHappen (members_of old) start events

-- a dump that the event makes has too many records
abbrev pub DumpsTooMany : List NodeValue → Event → Type 0
DumpsTooMany nodes event = (k : ℕ) × (node : NodeValue) × Dumps event k
    × (slice_get nodes k ≡ Some node) × HasTooMany node.table

-- two nodes' tables have the claims of both, and everything else is unchanged
pub record BothExchange (old new : List NodeValue) (j k : ℕ) : Type 0 where
  pub first : NodeValue
  pub second : NodeValue
  pub at_first : slice_get old j ≡ Some first
  pub at_second : slice_get old k ≡ Some second
  pub one : Entries
  pub other : Entries
  pub nodes : new ≡ set (set old j (with_table first one)) k (with_table second other)
  pub few : (¬ HasTooMany first.table) × (¬ HasTooMany second.table)
  pub joined : (claims others : List Claim) → TableOf first.table claims
      → TableOf second.table others
      → TableOf one (claims ++ others) × TableOf other (claims ++ others)

-- the event requests memory: a refutation only if one is due, and its incarnation is at most
-- 4,294,967,295
abbrev pub AsksForMemory : List NodeValue → Event → Type 0
AsksForMemory nodes (Hear k claim) = Unit {0}
AsksForMemory nodes (HearAll k claims) = Unit {0}
AsksForMemory nodes (Exchange j k) = Unit {0}
AsksForMemory nodes (Half j k) = Unit {0}
AsksForMemory nodes (Refute k) =
    (node : NodeValue) × (slice_get nodes k ≡ Some node) × IsDueInRange node

-- why the event does not happen to these nodes
abbrev pub StopsBy : List NodeValue → Event → Why → Type 0
StopsBy nodes event NoSuchNode = ¬ NamesNodes (length nodes) event
StopsBy nodes event SameNode = NamesNodes (length nodes) event × NamesOneTwice event
StopsBy nodes event TooManyRecords = NamesNodes (length nodes) event × (¬ NamesOneTwice event)
    × DumpsTooMany nodes event
StopsBy nodes event Memory = NamesNodes (length nodes) event × (¬ NamesOneTwice event)
    × AsksForMemory nodes event

-- the event at this index of the list does not happen to these nodes
abbrev pub StopsAt : List NodeValue → List Event → ℕ → Why → Type 0
StopsAt nodes events place why = (event : Event) × (slice_get events place ≡ Some event)
    × StopsBy nodes event why

-- The run of the events stopped: those before the index happened, and the one at the index does
-- not.
pub record Stopped (old new : List NodeValue) (events : List Event) (stop : Stop) : Type 0 where
  pub before : stop.done < length events
  pub ran : Ran old new (take stop.done events)
  pub why : StopsAt new events stop.done stop.why

-- Levelling stopped, because a table has too many records or memory ran out.
pub record LevelStopped (old new : List NodeValue) (stop : Stop) : Type 0 where
  pub stopped : Stopped old new (level_list (length old)) stop
  pub done : stop.done < 2 * length old - 3
  pub cause : (stop.why ≡ TooManyRecords) ⊎ (stop.why ≡ Memory)

-- each node's table is that of all claims that any node had, so all nodes have one table
pub record AreLevel (old new : List NodeValue) : Type 0 where
  pub all : (start : List (List Claim)) → TablesOf old start → (k : ℕ) (node : NodeValue)
      → slice_get new k ≡ Some node → TableOf node.table (all_heard start)
  pub one_table : (start : List (List Claim)) → TablesOf old start
      → (j k : ℕ) (node other : NodeValue) → slice_get new j ≡ Some node
      → slice_get new k ≡ Some other → node.table ≡ other.table
