-- What was captured and heard so far, and what is heard of connections.
use Rattle.std.specs.Prelude.{◌≡◌, ℕ, Bool, true, false, List, [], ◌∷◌, ◌++◌, Contains, Option, Some, None, IfSome}
use Rattle.std.specs.BTreeMap.{is_at}
use Rattle.std.specs.Map.{lookup}
use Rattle.std.specs.Option.{option_map}
use Rattle.std.specs.Ordering.{is_eq}
use Rattle.capture.specs.declared.ends.Ends.{Ends}
use Rattle.capture.specs.declared.fate.Fate.{Fate}
use Rattle.capture.specs.Captured.{Captured, captured, IsFlowOf, AreFlowsOf}
use Rattle.capture.specs.Flows.{FlowText}
use Rattle.capture.specs.FlowTexts.{PairText}
use Rattle.capture.specs.OpenFlows.{OpenFlows, ends_cmp, flow_at, Hears}
use Rattle.capture.specs.Packets.{TcpText}
use Rattle.memberlist_transport.specs.declared.in_the_clear.InTheClear.{InTheClear}
use Rattle.memberlist_view.specs.Told.{ViewValue}
use Rattle.swimwatch.specs.declared.listening.connections.Connections.{Connections}
use Rattle.swimwatch.specs.declared.listening.progress.Progress.{Progress}
use Rattle.swimwatch.specs.Views.{HearsStream}
use Rattle.swimwatch.specs.Ways.{PacketText}

-- one direction of a connection: between which endpoints, and the sequence number of its first byte
pub record Direction : Type 0 where
  pub ends : Ends
  pub start : ℕ

abbrev pub direction : Ends → ℕ → Direction
direction ends start = record { ends = ends; start = start }

-- what was captured and heard so far: the segments, the packets, the flows that are open, the
-- directions of which a stream was heard before their end, and the view
pub record Past : Type 0 where
  pub segments : List Captured
  pub packets : List PacketText
  pub flows : OpenFlows
  pub read : List Direction
  pub view : ViewValue

abbrev pub past_of : List Captured → List PacketText → List Direction → OpenFlows → ViewValue → Past
past_of segments packets read flows view =
    record { segments = segments; packets = packets; flows = flows; read = read; view = view }

-- A flow that is over is heard once: its bytes up to the first gap, as one stream, unless there are
-- none, or a stream of it was heard before.
pub data HearsFlow (clear : InTheClear) (keys : List (List ℕ)) (segments : List Captured)
    (read : List Direction) (ends : Ends) (flow : FlowText) (old new : ViewValue) : Type 0 where
  empty : flow.text ≡ [] → new ≡ old → HearsFlow clear keys segments read ends flow old new
  before : Contains read (direction ends flow.start) → new ≡ old
      → HearsFlow clear keys segments read ends flow old new
  stream : (time : ℕ) (whole : Bool) → IsFlowOf segments ends flow
      → HearsStream clear keys flow.text time whole old new
      → HearsFlow clear keys segments read ends flow old new

-- if there is one
abbrev pub HearsAny : InTheClear → List (List ℕ) → List Captured → List Direction → Ends
    → Option FlowText → ViewValue → ViewValue → Type 0
HearsAny clear keys segments read ends None old new = new ≡ old
HearsAny clear keys segments read ends (Some flow) old new =
    HearsFlow clear keys segments read ends flow old new

-- the flows between other endpoints stay
abbrev pub AreOthers : Ends → OpenFlows → OpenFlows → Type 0
AreOthers ends old new =
    (other : Ends) → is_eq (ends_cmp ends other) ≡ false → flow_at new other ≡ flow_at old other

-- Without another segment, connections are closed, and the flows between their ends are heard; or
-- the bytes of an open flow are heard, which are a stream.
pub data MovesOn (clear : InTheClear) (keys : List (List ℕ)) (first : Past) : Past → Type 0 where
  nothing : MovesOn clear keys first first
  closes : (p : Past) (ends : Ends) (pair : PairText) (flows : OpenFlows) (mid view : ViewValue)
      → MovesOn clear keys first p → flow_at p.flows ends ≡ Some pair → flow_at flows ends ≡ None
      → AreOthers ends p.flows flows
      → HearsFlow clear keys p.segments p.read ends pair.older.flow p.view mid
      → HearsAny clear keys p.segments p.read ends (option_map (λ n. n.flow) pair.newer) mid view
      → MovesOn clear keys first (past_of p.segments p.packets p.read flows view)
  reads : (p : Past) (ends : Ends) (pair : PairText) (time : ℕ) (view : ViewValue)
      → MovesOn clear keys first p → flow_at p.flows ends ≡ Some pair
      → IsFlowOf p.segments ends pair.older.flow
      → HearsStream clear keys pair.older.flow.text time true p.view view
      → MovesOn clear keys first (past_of p.segments p.packets
      (p.read ++ direction ends pair.older.flow.start ∷ []) p.flows view)

-- A segment is put in its flow. Flows that are over with it are heard: one whose place it takes for
-- another, and one that it completes.
pub data TakesSegment (clear : InTheClear) (keys : List (List ℕ)) (ends : Ends) (t : TcpText)
    (old : Past) : Past → Type 0 where
  takes : (flows : OpenFlows) (taken : Option Fate) (replaced complete : Option FlowText)
      (mid view : ViewValue)
      → Hears (flow_at old.flows ends) t taken replaced complete (flow_at flows ends)
      → AreOthers ends old.flows flows
      → HearsAny clear keys (old.segments ++ captured ends t ∷ []) old.read ends replaced old.view mid
      → HearsAny clear keys (old.segments ++ captured ends t ∷ []) old.read ends complete mid view
      → TakesSegment clear keys ends t old (past_of (old.segments ++ captured ends t ∷ [])
      old.packets old.read flows view)

-- what is heard with a segment
abbrev pub HearsSegment : InTheClear → List (List ℕ) → Ends → TcpText → Past → Past → Type 0
HearsSegment clear keys ends t old new = (before after : Past) × MovesOn clear keys old before
    × TakesSegment clear keys ends t before after × MovesOn clear keys after new

-- ---- what is kept of it

abbrev pub AllProgress : Type 0
AllProgress = List (Ends × Progress)

abbrev pub progress_at : AllProgress → Ends → Option Progress
progress_at all ends = lookup (is_at (ends_cmp ends)) all

-- an open flow of which a stream was heard is one of these
abbrev pub IsRead : List Direction → OpenFlows → Ends → Progress → Type 0
IsRead read flows ends progress = progress.is_read ≡ true → (pair : PairText)
    × (flow_at flows ends ≡ Some pair) × Contains read (direction ends pair.older.flow.start)

-- so is a flow that is over, if there is one
abbrev pub IsReadBy : List Direction → OpenFlows → Ends → Option FlowText → Progress → Type 0
IsReadBy read flows ends None progress = IsRead read flows ends progress
IsReadBy read flows ends (Some flow) progress =
    progress.is_read ≡ true → Contains read (direction ends flow.start)

abbrev pub AreRead : List Direction → OpenFlows → AllProgress → Type 0
AreRead read flows all = (ends : Ends) → IfSome (progress_at all ends) (IsRead read flows ends)

-- so are all but those between these endpoints
abbrev pub AreReadBut : Ends → List Direction → OpenFlows → AllProgress → Type 0
AreReadBut ends read flows all = (other : Ends) → is_eq (ends_cmp ends other) ≡ false
    → IfSome (progress_at all other) (IsRead read flows other)

-- these segments were captured, and of these directions a stream was heard
abbrev pub Follows : List Captured → List Direction → Connections → Type 0
Follows segments read c = AreFlowsOf segments c.flows × AreRead read c.flows c.progress.entries

-- connections that move on are followed
abbrev pub HandsOver : InTheClear → List (List ℕ) → Connections → ViewValue → Connections → ViewValue
    → Type 0
HandsOver clear keys old view new now = (segments : List Captured) (packets : List PacketText)
    (read : List Direction) → Follows segments read old
    → MovesOn clear keys (past_of segments packets read old.flows view)
    (past_of segments packets read new.flows now) × Follows segments read new
