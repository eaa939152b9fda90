-- The open flows, as clauses see them, and what a segment does to them.
use Rattle.std.specs.Prelude.{◌≡◌, ℕ, ◌+◌, ◌%◌, ◌^◌, ◌≤◌, ◌==◌, ◌||◌, ◌&&◌, Bool, true, false, not, nat_lt}
use Rattle.std.specs.Prelude.{if◌then◌else◌, List, [], ◌∷◌, ◌++◌, length, Option, Some, None}
use Rattle.std.specs.BTreeMap.{is_at}
use Rattle.std.specs.Map.{lookup}
use Rattle.std.specs.Option.{option_map}
use Rattle.std.specs.declared.cmp.Ordering.{Ordering}
use Rattle.capture.specs.declared.ends.Ends.{Ends}
use Rattle.capture.specs.contracts.ends.EndsOrd.TheImpl as ends_ord
use Rattle.capture.specs.declared.fate.Fate.{Fate}
use Rattle.capture.specs.declared.fate.Fate.TheVariants.{Beyond, Crowded}
use Rattle.capture.specs.Flows.{Placed, FlowText, placed_at, Says}
use Rattle.capture.specs.FlowTexts.{OpenText, PairText, IsBeyond, counts, end_after, is_over, next_of, is_reset}
use Rattle.capture.specs.Packets.{TcpText}

-- the order of endpoints: by the source, then by the destination
abbrev pub ends_cmp : Ends → Ends → Ordering
ends_cmp = (ends_ord.ghosts).cmp

-- the open flows, in the order of their endpoints
abbrev pub OpenFlows : Type 0
OpenFlows = List (Ends × PairText)

-- how many there are
abbrev pub flows_len : OpenFlows → ℕ
flows_len flows = length flows

-- the open flow between these endpoints, and the newer one
abbrev pub flow_at : OpenFlows → Ends → Option PairText
flow_at flows ends = lookup (is_at (ends_cmp ends)) flows

-- a flow with no bytes
abbrev pub begun : ℕ → OpenText
begun start =
    record {
      flow = record { start = start; text = []; waiting = [] };
      end = None;
      reset = false;
    }

-- a flow with no newer one
abbrev pub alone : OpenText → PairText
alone o = record { older = o; newer = None }

-- RFC 9293, 3.4: a SYN has a sequence number of its own, before that of the first byte
abbrev pub first_of : TcpText → ℕ
first_of s = if s.syn then (s.seq + 1) % 2 ^ 32 else s.seq

-- a segment starts a flow where none is open if it is a SYN or has a payload
abbrev pub begins : TcpText → Bool
begins s = s.syn || nat_lt 0 (length s.payload)

-- A SYN with another sequence number than the open flow's. If it is forged or late, its receiver
-- keeps the connection (RFC 5961, 4.2); if the endpoints are used again, it begins the next flow.
abbrev pub is_other : OpenText → TcpText → Bool
is_other o s = s.syn && not (o.flow.start == first_of s)

-- a segment that goes on where the newer flow ends, and not where the open one does
abbrev pub confirms : OpenText → OpenText → TcpText → Bool
confirms o n s = not s.syn && (next_of n.flow == first_of s) && not (next_of o.flow == first_of s)

abbrev pub confirms_newer : OpenText → Option OpenText → TcpText → Bool
confirms_newer o None s = false
confirms_newer o (Some n) s = confirms o n s

-- the newer flow that takes a SYN: the one that it began, or one that it begins
abbrev pub newer_of : Option OpenText → ℕ → OpenText
newer_of None first = begun first
newer_of (Some n) first = if n.flow.start == first then n else begun first

-- the place of a segment in a flow
abbrev pub place_in : OpenText → ℕ → TcpText → Placed
place_in o first s = placed_at o.flow.start first s.payload

-- the flow after it took a segment whose payload starts at a sequence number, with this outcome for
-- the segment
pub record IsAfter (old : OpenText) (first : ℕ) (s : TcpText) (taken : Fate) (new : OpenText) :
    Type 0 where
  pub said : counts taken ≡ true → (segments : List Placed) → Says segments old.flow
      → Says (segments ++ place_in old first s ∷ []) new.flow
  pub left_out : counts taken ≡ false → new.flow ≡ old.flow
  pub starts : new.flow.start ≡ old.flow.start
  pub ends : new.end ≡ end_after old.end s.fin (place_in old first s)
  pub resets : new.reset ≡ (old.reset || is_reset old.flow s.rst first)
  pub beyond : taken ≡ Beyond → IsBeyond old.flow (place_in old first s)
  pub near : IsBeyond old.flow (place_in old first s) → taken ≡ Beyond
  pub crowded : taken ≡ Crowded → 4096 ≤ length old.flow.waiting

-- what a segment does to the flows between its endpoints: how it was taken, and which flow it
-- replaced
pub data GoesOn (old : PairText) (first : ℕ) (s : TcpText) (taken : Fate)
    (replaced : Option FlowText) (new : PairText) : Type 0 where
  -- a SYN of another flow is set aside
  aside : is_other old.older s ≡ true → new.older ≡ old.older → (after : OpenText)
      → new.newer ≡ Some after → IsAfter (newer_of old.newer first) first s taken after
      → replaced ≡ None → GoesOn old first s taken replaced new
  -- the newer flow takes the place of the open one
  replaces : is_other old.older s ≡ false → (n : OpenText) → old.newer ≡ Some n
      → confirms old.older n s ≡ true → IsAfter n first s taken new.older → new.newer ≡ None
      → replaced ≡ Some old.older.flow → GoesOn old first s taken replaced new
  -- the open flow takes it
  takes : is_other old.older s ≡ false → confirms_newer old.older old.newer s ≡ false
      → IsAfter old.older first s taken new.older → new.newer ≡ old.newer
      → replaced ≡ None → GoesOn old first s taken replaced new

-- The flow that is complete, and what stays: once the open flow is over, a newer one takes its
-- place.
abbrev pub settled : PairText → Option FlowText × Option PairText
settled p = if is_over p.older then (Some p.older.flow, option_map alone p.newer) else (None, Some p)

-- what a segment does to the flows between its endpoints, and the results
pub data Hears (old : Option PairText) (s : TcpText) (taken : Option Fate)
    (replaced complete : Option FlowText) (new : Option PairText) : Type 0 where
  passed_over : old ≡ None → begins s ≡ false → taken ≡ None → replaced ≡ None → complete ≡ None
      → new ≡ None → Hears old s taken replaced complete new
  began : old ≡ None → begins s ≡ true → (what : Fate) (after : OpenText)
      → IsAfter (begun (first_of s)) (first_of s) s what after → taken ≡ Some what
      → replaced ≡ None → (complete, new) ≡ settled (alone after)
      → Hears old s taken replaced complete new
  went_on : (p : PairText) → old ≡ Some p → (what : Fate) (after : PairText)
      → GoesOn p (first_of s) s what replaced after → taken ≡ Some what
      → (complete, new) ≡ settled after → Hears old s taken replaced complete new
