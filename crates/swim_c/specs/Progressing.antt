-- A stream that comes in pieces, and how far it has been read.
use Rattle.std.specs.Prelude.{◌≡◌, ℕ, ◌+◌, ◌-◌, ◌<◌, Bool, true, false, List, ◌++◌, length, drop}
use Rattle.swim_claim.specs.declared.claim.Claim.{Claim}
use Rattle.swim_wire.specs.declared.fault.WireFault.{WireFault}
use Rattle.swim_wire.specs.declared.fault.WireFault.TheVariants.{Memory}
use Rattle.swim_wire.specs.declared.stream.Header.{Header}
use Rattle.swim_wire.specs.Fault.{wire_number}
use Rattle.swim_wire.specs.Texts.{HeaderText, StateText}
use Rattle.swim_table.specs.Steps.{BeginText, ReasonForBegin, ReasonForRecord, ReasonForUser}
use Rattle.swim_c.specs.declared.progress.Progress.{Progress}
use Rattle.swim_c.specs.Exchanges.{HoldsNoStream, ReadsStream}
use Rattle.swim_c.specs.Statuses as statuses

-- the offset of the first byte that was not read, the records left, the length of the user state,
-- and whether the header was read
abbrev pub progress : ℕ → ℕ → ℕ → Bool → Progress
progress at left user_len has_header =
    record { at = at; left = left; user_len = user_len; has_header = has_header }

-- This is progress in these bytes: nothing was read, or they begin with the header of a stream and
-- some of its records, and these were read.
pub data IsProgressIn (bytes : List ℕ) (p : Progress) : Type 0 where
  none : p ≡ progress 0 0 0 false → IsProgressIn bytes p
  some : (front rest : List ℕ) (header : Header) (claims : List Claim)
      → BeginText front header claims → bytes ≡ front ++ rest
      → length claims + p.left ≡ header.nodes
      → p ≡ progress (length front) p.left header.user_len true → IsProgressIn bytes p

-- Reading stops with this fault at the first byte that was not read: there is no header, or no
-- further record, or the user state is cut short.
pub data StopsAt (p : Progress) (fault : WireFault) (bytes : List ℕ) : Type 0 where
  header : p.has_header ≡ false → ReasonForBegin fault (drop p.at bytes) → StopsAt p fault bytes
  record_of : p.has_header ≡ true → 0 < p.left → ReasonForRecord fault (drop p.at bytes)
      → StopsAt p fault bytes
  user_state : p.has_header ≡ true → p.left ≡ 0 → ReasonForUser p.user_len fault (drop p.at bytes)
      → StopsAt p fault bytes

-- The bytes begin with a stream, and only its user state was not read (0). Or they do not: the
-- status is that of the fault at which reading stops, which is 1 if the bytes end too soon. Or
-- memory was refused for a record (10).
pub data WholeDone (bytes : List ℕ) (p : Progress) (status : ℕ) : Type 0 where
  whole : (join : Bool) → status ≡ 0 → p.left ≡ 0 → ReadsStream bytes join (p.at + p.user_len)
      → WholeDone bytes p status
  refused : (fault : WireFault) → status ≡ wire_number fault → HoldsNoStream bytes fault
      → StopsAt p fault bytes → WholeDone bytes p status
  memory : status ≡ statuses.memory → StopsAt p Memory bytes → WholeDone bytes p status

-- The header was read at a call before, or is read from the first byte that was not read.
pub data HasBegun (bytes : List ℕ) (p begun : Progress) : Type 0 where
  before : p.has_header ≡ true → begun ≡ p → HasBegun bytes p begun
  now : (text rest : List ℕ) (header : Header) → p.has_header ≡ false → HeaderText text header
      → drop p.at bytes ≡ text ++ rest
      → begun ≡ progress (length bytes - length rest) header.nodes header.user_len true
      → HasBegun bytes p begun

-- One more record was read, from the first byte that was not read: that of this claim.
abbrev pub TakesRecord : List ℕ → Progress → Progress → Claim → Type 0
TakesRecord bytes p q claim = (text : List ℕ) × (rest : List ℕ) × StateText text claim
    × (0 < p.left) × (drop p.at bytes ≡ text ++ rest)
    × (q ≡ progress (length bytes - length rest) (p.left - 1) p.user_len true)
