-- Bytes in memory of the library.
use Rattle.std.specs.Prelude.{◌≡◌, ◌⊎◌, ℕ, Bool, List, Some, length}
use Rattle.swim_sync.specs.declared.fault.SyncFault.{SyncFault}
use Rattle.swim_sync.specs.Fault.{sync_number}
use Rattle.swim_table.specs.Node.{NodeValue}
use Rattle.swim_table.specs.Table.{Entries}
use Rattle.swim_c.specs.declared.buffer.Buffer.{Buffer}
use Rattle.swim_c.specs.Buffers.{IsNoMemory}
use Rattle.swim_c.specs.Exchanges.{AnswerCause, IsUntold, LacksDump, NodeTakesStream}
use Rattle.swim_c.specs.Forms.{Wanted, bytes_in, IsWanted, IsUnwanted}

-- The library keeps these bytes in the buffer: its pointer is their address, and its length is
-- theirs.
pub record HasBytes (bytes : List ℕ) (b : Buffer) : Type 0 where
  pub kept : b.kept.kept ≡ Some (record { at = b.at; bytes = bytes })
  pub len : b.len ≡ length bytes

-- The buffer has these bytes (0), or there are none for this reason and it is unchanged.
pub data FilledOr (bytes : List ℕ) (old new : Buffer) (status : ℕ)
    (Refused : ℕ → Type 0) : Type 0 where
  filled : status ≡ 0 → HasBytes bytes new → FilledOr bytes old new status Refused
  refused : Refused status → new ≡ old → FilledOr bytes old new status Refused

-- why a table has no dump in a form: too many records (23), or memory was refused (10)
abbrev pub IsUndumped : Wanted → Entries → ℕ → Type 0
IsUndumped form table status = LacksDump form table status ⊎ IsNoMemory status

-- The buffer has the dump in the form with this number and with this user state, or there is no
-- dump. Or it may not have it, and is unchanged.
pub data OfferedNew (number : ℕ) (user : List ℕ) (table : Entries) (join : Bool)
    (old new : Buffer) (status : ℕ) : Type 0 where
  in_form : (form : Wanted) → IsWanted number user form
      → FilledOr (bytes_in form table join) old new status (IsUndumped form table)
      → OfferedNew number user table join old new status
  bad_form : IsUnwanted number user status → new ≡ old
      → OfferedNew number user table join old new status

-- A stream was taken in, and the buffer has the dump of before in the form (0). Or the node and the
-- buffer are unchanged: there is no stream, and the status is that of the fault; the node's table
-- has too many records in the form (23); or memory was refused (10).
pub data AnswersNew (form : Wanted) (stream : List ℕ) (old new : Buffer) (status : ℕ) (join : Bool)
    (used len : ℕ) (before after : NodeValue) : Type 0 where
  answered : status ≡ 0 → NodeTakesStream stream join used before after
      → HasBytes (bytes_in form before.table join) new
      → len ≡ length (bytes_in form before.table join)
      → AnswersNew form stream old new status join used len before after
  refused : (fault : SyncFault) → AnswerCause form stream before.table fault
      → status ≡ sync_number fault → IsUntold join used len
      → after ≡ before → new ≡ old → AnswersNew form stream old new status join used len before after

-- The same in the form with this number and with this user state. Or it may not be answered so, and
-- the node and the buffer are unchanged.
pub data AnsweredNew (number : ℕ) (user stream : List ℕ) (old new : Buffer) (status : ℕ)
    (join : Bool) (used len : ℕ) (before after : NodeValue) : Type 0 where
  in_form : (form : Wanted) → IsWanted number user form
      → AnswersNew form stream old new status join used len before after
      → AnsweredNew number user stream old new status join used len before after
  bad_form : IsUnwanted number user status → IsUntold join used len → after ≡ before
      → new ≡ old
      → AnsweredNew number user stream old new status join used len before after
