-- Bytes that are written to a buffer of the caller.
use Rattle.std.specs.Prelude.{◌≡◌, ℕ, ◌<◌, ◌≤◌, List, ◌++◌, length, drop}
use Rattle.swim_c.specs.declared.exchanging.Given.{Given}
use Rattle.swim_c.specs.Statuses as statuses

-- the bytes were written to the start of the same memory, which has room for them
abbrev pub IsAtFront : List ℕ → Given → Given → Type 0
IsAtFront bytes old new = (new.out.ghost_name ≡ old.out.ghost_name)
    × (length bytes ≤ length old.out.now)
    × (new.out.now ≡ bytes ++ drop (length bytes) old.out.now)

-- The bytes are at the start of the buffer (status 0), or they do not fit and the buffer is
-- unchanged (66). The length is theirs.
pub data Copied (bytes old new : List ℕ) (status len : ℕ) : Type 0 where
  done : status ≡ 0 → len ≡ length bytes → length bytes ≤ length old
      → new ≡ bytes ++ drop (length bytes) old → Copied bytes old new status len
  too_small : status ≡ statuses.too_small → len ≡ length bytes → length old < length bytes
      → new ≡ old
      → Copied bytes old new status len

-- the status of a lack of memory is 10
abbrev pub IsNoMemory : ℕ → Type 0
IsNoMemory status = status ≡ statuses.memory

-- The bytes were copied or did not fit, or there are none for this reason and the buffer is
-- unchanged.
pub data WrittenOr (bytes old new : List ℕ) (status len : ℕ) (Refused : ℕ → Type 0) : Type 0 where
  written : Copied bytes old new status len → WrittenOr bytes old new status len Refused
  refused : Refused status → len ≡ 0 → new ≡ old → WrittenOr bytes old new status len Refused
