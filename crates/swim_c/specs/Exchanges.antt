-- The two halves of an exchange over memory: streams that a node reads, takes in and answers.
use Rattle.std.specs.Prelude.{◌≡◌, ◌≢◌, ℕ, List, ◌++◌, length, Bool, false}
use Rattle.swim_claim.specs.declared.claim.Claim.{Claim}
use Rattle.swim_wire.specs.declared.fault.WireFault.{WireFault}
use Rattle.swim_wire.specs.declared.fault.WireFault.TheVariants as wire
use Rattle.swim_wire.specs.Streams.{StreamText}
use Rattle.swim_table.specs.Node.{NodeValue, SameMember}
use Rattle.swim_table.specs.Steps.{ReasonForStream}
use Rattle.swim_table.specs.Table.{Entries}
use Rattle.swim_sync.specs.declared.fault.SyncFault.{SyncFault}
use Rattle.swim_sync.specs.declared.fault.SyncFault.TheVariants.{Wire, TooManyRecords, Push, Memory}
use Rattle.swim_sync.specs.Fault.{sync_number}
use Rattle.swim_c.specs.Buffers.{Copied, WrittenOr}
use Rattle.swim_c.specs.Forms.{Wanted, bytes_in, HasTooManyIn, IsWanted, IsUnwanted}
use Rattle.swim_c.specs.Taking.{TakesClaims}
use Rattle.swim_c.specs.Statuses as statuses

-- the bytes begin with a stream of these claims, with this length and flag
pub record BeginsStream (bytes : List ℕ) (claims : List Claim) (join : Bool)
    (used : ℕ) : Type 0 where
  pub text : List ℕ
  pub rest : List ℕ
  pub front : bytes ≡ text ++ rest
  pub used_is : used ≡ length text
  pub stream : StreamText text claims join

-- the bytes begin with a stream of this length and flag
abbrev pub ReadsStream : List ℕ → Bool → ℕ → Type 0
ReadsStream bytes join used = (claims : List Claim) × BeginsStream bytes claims join used

-- the bytes begin with a stream of this length and flag, and the node took its claims in
pub record NodeTakesStream (bytes : List ℕ) (join : Bool) (used : ℕ)
    (before after : NodeValue) : Type 0 where
  pub claims : List Claim
  pub begins : BeginsStream bytes claims join used
  pub taken : TakesClaims claims before.table after.table
  pub member : SameMember before after

-- The bytes do not begin with a stream, and the fault says why. Bytes in memory do not fail.
pub record HoldsNoStream (bytes : List ℕ) (fault : WireFault) : Type 0 where
  pub no_memory : fault ≢ wire.Memory
  pub no_end : fault ≢ wire.Fault
  pub lacks : (text rest : List ℕ) (claims : List Claim) (join : Bool) → StreamText text claims join
      → bytes ≢ text ++ rest
  pub reason : ReasonForStream fault bytes

-- why a table has no dump in a form: it has too many records (23)
abbrev pub LacksDump : Wanted → Entries → ℕ → Type 0
LacksDump form table status = (status ≡ 23) × HasTooManyIn form table

-- why a reply was not taken in
abbrev pub FinishCause : List ℕ → SyncFault → Type 0
FinishCause stream (Wire fault) = HoldsNoStream stream fault
FinishCause stream TooManyRecords = ⊥
FinishCause stream Push = ⊥
FinishCause stream Memory = Unit {0}

-- why an offer was not answered; too many records only if there is a stream
abbrev pub AnswerCause : Wanted → List ℕ → Entries → SyncFault → Type 0
AnswerCause form stream table (Wire fault) = HoldsNoStream stream fault
AnswerCause form stream table TooManyRecords = HasTooManyIn form table
    × ((join : Bool) × (used : ℕ) × ReadsStream stream join used)
AnswerCause form stream table Push = ⊥
AnswerCause form stream table Memory = Unit {0}

-- nothing is reported about a stream
pub record IsUntold (join : Bool) (used len : ℕ) : Type 0 where
  pub no_join : join ≡ false
  pub no_used : used ≡ 0
  pub no_len : len ≡ 0

-- A stream was taken in (0). Or the node is unchanged: there is no stream, or memory was refused,
-- and the status is that of the fault.
pub data FinishDone (stream : List ℕ) (status : ℕ) (join : Bool) (used len : ℕ)
    (before after : NodeValue) : Type 0 where
  finished : status ≡ 0 → len ≡ 0 → NodeTakesStream stream join used before after
      → FinishDone stream status join used len before after
  refused : (fault : SyncFault) → FinishCause stream fault → status ≡ sync_number fault
      → IsUntold join used len
      → after ≡ before → FinishDone stream status join used len before after

-- A stream was read. Either it was taken in, and the dump of before was written in the form (0), or
-- there is no room for the dump and nothing changed (66). `Wrote` and `LacksRoom` are what this
-- means for the destination of the dump.
pub data Replied (form : Wanted) (stream : List ℕ) (Wrote : List ℕ → Type 0)
    (LacksRoom : ℕ → Type 0) (status : ℕ) (join : Bool) (used len : ℕ)
    (before after : NodeValue) : Type 0 where
  replied : status ≡ 0 → NodeTakesStream stream join used before after
      → len ≡ length (bytes_in form before.table join) → Wrote (bytes_in form before.table join)
      → Replied form stream Wrote LacksRoom status join used len before after
  no_room : status ≡ statuses.too_small → ReadsStream stream join used
      → len ≡ length (bytes_in form before.table join) → LacksRoom len → after ≡ before
      → Replied form stream Wrote LacksRoom status join used len before after

-- A stream was read. Either the dump of before was written in the form and the stream taken in (0),
-- or the dump does not fit and nothing changed (66).
pub data AnswersOffer (form : Wanted) (stream old new : List ℕ) (status : ℕ) (join : Bool)
    (used len : ℕ) (before after : NodeValue) : Type 0 where
  answered : status ≡ 0 → NodeTakesStream stream join used before after
      → Copied (bytes_in form before.table join) old new status len
      → AnswersOffer form stream old new status join used len before after
  too_small : status ≡ statuses.too_small → ReadsStream stream join used
      → Copied (bytes_in form before.table join) old new status len → after ≡ before
      → AnswersOffer form stream old new status join used len before after

-- An offer was answered, or the reply does not fit. Or the node and the buffer are unchanged: there
-- is no stream, and the status is that of the fault; the node's table has too many records in the
-- form (23); or memory was refused (10).
pub data AnswerDone (form : Wanted) (stream old new : List ℕ) (status : ℕ) (join : Bool)
    (used len : ℕ) (before after : NodeValue) : Type 0 where
  answers : AnswersOffer form stream old new status join used len before after
      → AnswerDone form stream old new status join used len before after
  refused : (fault : SyncFault) → AnswerCause form stream before.table fault
      → status ≡ sync_number fault → IsUntold join used len
      → after ≡ before → new ≡ old → AnswerDone form stream old new status join used len before after

-- An offer was written in the form with this number and with this user state. Or it may not be, and
-- the buffer is unchanged.
pub data OfferedInForm (number : ℕ) (user : List ℕ) (table : Entries) (join : Bool)
    (old new : List ℕ) (status len : ℕ) : Type 0 where
  in_form : (form : Wanted) → IsWanted number user form
      → WrittenOr (bytes_in form table join) old new status len (LacksDump form table)
      → OfferedInForm number user table join old new status len
  bad_form : IsUnwanted number user status → len ≡ 0 → new ≡ old
      → OfferedInForm number user table join old new status len

-- An offer was answered in the form with this number and with this user state, or refused. Or it
-- may not be answered so, and the node and the buffer are unchanged.
pub data AnsweredInForm (number : ℕ) (user stream old new : List ℕ) (status : ℕ) (join : Bool)
    (used len : ℕ) (before after : NodeValue) : Type 0 where
  in_form : (form : Wanted) → IsWanted number user form
      → AnswerDone form stream old new status join used len before after
      → AnsweredInForm number user stream old new status join used len before after
  bad_form : IsUnwanted number user status → IsUntold join used len → after ≡ before
      → new ≡ old
      → AnsweredInForm number user stream old new status join used len before after
