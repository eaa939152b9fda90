-- The bytes that the segments of a flow give, in the order in which they were captured.
use Rattle.std.specs.Prelude.{◌≡◌, ℕ, ◌+◌, ◌-◌, ◌%◌, ◌^◌, ◌<◌, ◌≤◌, Bool, false, nat_lt, min, if◌then◌else◌, List}
use Rattle.std.specs.Prelude.{length, drop, slice_index, slice_index_or, find, Option, Some, None}
use Rattle.std.specs.List.{All}

-- the bytes of a segment, and the place of the first of them in the flow
pub record Placed : Type 0 where
  pub at : ℕ
  pub bytes : List ℕ

abbrev pub placed : ℕ → List ℕ → Placed
placed at bytes = record { at = at; bytes = bytes }

-- RFC 9293, 3.4: a byte is at its sequence number, modulo 2^32. Less than half of them lie ahead of
-- the flow's first byte; what a segment has before that is not part of the flow.
abbrev pub placed_at : ℕ → ℕ → List ℕ → Placed
placed_at start seq payload =
    if nat_lt ((seq + 2 ^ 32 - start) % 2 ^ 32) (2 ^ 31)
    then placed ((seq + 2 ^ 32 - start) % 2 ^ 32) payload
    else placed 0 (drop (2 ^ 32 - (seq + 2 ^ 32 - start) % 2 ^ 32) payload)

-- the place after a segment
abbrev pub end_of : Placed → ℕ
end_of s = s.at + length s.bytes

-- whether a segment covers a place
abbrev pub covers : ℕ → Placed → Bool
covers place s = if nat_lt place s.at then false else nat_lt place (end_of s)

-- the byte of a segment at a place
abbrev pub byte_in : ℕ → Option Placed → Option ℕ
byte_in place None = None
byte_in place (Some s) = Some (slice_index s.bytes (place - s.at))

-- the byte at a place: that of the first captured segment that covers it
abbrev pub byte_at : ℕ → List Placed → Option ℕ
byte_at place segments = byte_in place (find (covers place) segments)

-- these are the first bytes
abbrev pub SaysFirst : List Placed → List ℕ → Type 0
SaysFirst segments text =
    (k : ℕ) → k < length text → byte_at k segments ≡ Some (slice_index text k)

-- these are the bytes from a place on
abbrev pub SaysFrom : List Placed → ℕ → List ℕ → Type 0
SaysFrom segments place text =
    (k : ℕ) → k < length text → byte_at (place + k) segments ≡ Some (slice_index text k)

-- the bytes of a flow of these segments: all that are covered without a gap
pub record Assembled (segments : List Placed) (text : List ℕ) : Type 0 where
  pub covered : SaysFirst segments text
  pub longest : byte_at (length text) segments ≡ None

-- the segments are in ascending order, and none overlaps another
abbrev pub InOrder : List Placed → Type 0
InOrder segments = (i j : ℕ) (d : Placed) → i < j → j < length segments
    → end_of (slice_index_or segments i d) ≤ (slice_index_or segments j d).at

-- no segment lies on both sides of a place
abbrev pub IsClean : ℕ → List Placed → Type 0
IsClean place segments = All (λ s. s.at < place → end_of s ≤ place) segments

-- each place from one up to another is covered
abbrev pub AreCovered : ℕ → ℕ → List Placed → Type 0
AreCovered low high segments =
    (k : ℕ) → low ≤ k → k < high → (p : Placed) × (find (covers k) segments ≡ Some p)

-- a flow that is reassembled: the sequence number of its first byte, its bytes up to the first gap,
-- and the segments that wait after it
pub record FlowText : Type 0 where
  pub start : ℕ
  pub text : List ℕ
  pub waiting : List Placed

-- the flow has at each place the byte that the segments give
pub record Says (segments : List Placed) (flow : FlowText) : Type 0 where
  pub front : SaysFirst segments flow.text
  pub behind : (place : ℕ) → length flow.text ≤ place
      → byte_at place segments ≡ byte_at place flow.waiting

-- the lesser of a place and where a segment starts, if it starts above another place
abbrev pub closer : ℕ → ℕ → Placed → ℕ
closer place stop s = if nat_lt place s.at then min s.at stop else stop

-- the next bytes from a place on, and some
pub record IsNext (segments : List Placed) (place : ℕ) (part : List ℕ) : Type 0 where
  pub some : 0 < length part
  pub near : place + length part ≤ 2 ^ 25
  pub says : SaysFrom segments place part
