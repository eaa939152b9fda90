-- Flows as clauses see them, and the result of taking a segment.
use Rattle.std.specs.Prelude.{ℕ, ◌+◌, ◌-◌, ◌%◌, ◌^◌, ◌<◌, ◌⊎◌, ◌==◌, ◌||◌, ◌&&◌, Bool, true, false, nat_le}
use Rattle.std.specs.Prelude.{if◌then◌else◌, length, Option, Some, None}
use Rattle.std.specs.Option.{option_or}
use Rattle.capture.specs.declared.flow.Flow.{Flow}
use Rattle.capture.specs.declared.fate.Fate.{Fate}
use Rattle.capture.specs.declared.fate.Fate.TheVariants.{Known, Joined, Waits, Beyond, Crowded}
use Rattle.capture.specs.Flows.{Placed, FlowText, end_of}

-- what clauses see of a flow
abbrev pub flow_text : Flow → FlowText
flow_text f = record { start = f.start; text = f.text.items; waiting = f.waiting.items }

-- whether the segment counts
abbrev pub counts : Fate → Bool
counts Known = true
counts Joined = true
counts Waits = true
counts Beyond = false
counts Crowded = false

-- the segment has bytes after those that are there, and ends more than 2^24 bytes after them, or
-- the flow would have more than 2^25
abbrev pub IsBeyond : FlowText → Placed → Type 0
IsBeyond f s = (0 < length s.bytes) × (length f.text < end_of s)
    × ((2 ^ 24 < end_of s - length f.text) ⊎ (2 ^ 25 < end_of s))

-- a flow that is not complete: how many bytes it has, if that is known, and whether it was reset
pub record OpenText : Type 0 where
  pub flow : FlowText
  pub end : Option ℕ
  pub reset : Bool

-- how many bytes it has after a segment: the first FIN counts, and is after the payload
abbrev pub end_after : Option ℕ → Bool → Placed → Option ℕ
end_after end fin s = if fin then option_or end (Some (end_of s)) else end

-- a flow is over when it was reset, or all bytes before its FIN are there
abbrev pub is_there : Option ℕ → ℕ → Bool
is_there None count = false
is_there (Some end) count = nat_le end count

abbrev pub is_over : OpenText → Bool
is_over o = o.reset || is_there o.end (length o.flow.text)

-- RFC 9293, 3.4: the sequence number of the first byte that a flow lacks
abbrev pub next_of : FlowText → ℕ
next_of f = (f.start + length f.text) % 2 ^ 32

-- RFC 5961, 3.2: a RST ends a flow only if its sequence number is that of the next byte
abbrev pub is_reset : FlowText → Bool → ℕ → Bool
is_reset f rst first = rst && (next_of f == first)

-- the open flow between two endpoints, and a newer one of which nothing but the SYN came
pub record PairText : Type 0 where
  pub older : OpenText
  pub newer : Option OpenText
