-- From which captured segments a flow is put together.
use Rattle.std.specs.Prelude.{◌≡◌, ℕ, true, List, [], ◌∷◌, ◌++◌, IfSome}
use Rattle.std.specs.Ordering.{is_eq}
use Rattle.capture.specs.declared.ends.Ends.{Ends}
use Rattle.capture.specs.Flows.{Placed, FlowText, placed_at, Says}
use Rattle.capture.specs.FlowTexts.{PairText}
use Rattle.capture.specs.OpenFlows.{OpenFlows, ends_cmp, flow_at, first_of}
use Rattle.capture.specs.Packets.{TcpText}

-- a segment that was captured, and between which endpoints
pub record Captured : Type 0 where
  pub ends : Ends
  pub segment : TcpText

abbrev pub captured : Ends → TcpText → Captured
captured ends segment = record { ends = ends; segment = segment }

-- where its payload is in a flow with this first byte
abbrev pub place_of : ℕ → Captured → Placed
place_of start c = placed_at start (first_of c.segment) c.segment.payload

-- where some of the segments are that were captured between two endpoints, in the order in which
-- they were captured
pub data AreSome (ends : Ends) (start : ℕ) : List Captured → List Placed → Type 0 where
  none : AreSome ends start [] []
  passed_over : (before : List Captured) (places : List Placed) (c : Captured)
      → AreSome ends start before places → AreSome ends start (before ++ c ∷ []) places
  has : (before : List Captured) (places : List Placed) (c : Captured)
      → is_eq (ends_cmp ends c.ends) ≡ true → AreSome ends start before places
      → AreSome ends start (before ++ c ∷ []) (places ++ place_of start c ∷ [])

-- the flow has the bytes of some of the segments that were captured between these endpoints, of the
-- first one that covers a byte
abbrev pub IsFlowOf : List Captured → Ends → FlowText → Type 0
IsFlowOf all ends flow =
    (places : List Placed) × AreSome ends flow.start all places × Says places flow

-- so have the open flow between these endpoints and the newer one
abbrev pub IsPairOf : List Captured → Ends → PairText → Type 0
IsPairOf all ends p = IsFlowOf all ends p.older.flow
    × IfSome p.newer (λ n. IsFlowOf all ends n.flow)

-- so have all open flows
abbrev pub AreFlowsOf : List Captured → OpenFlows → Type 0
AreFlowsOf all flows = (ends : Ends) → IfSome (flow_at flows ends) (IsPairOf all ends)
