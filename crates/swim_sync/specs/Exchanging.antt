-- What the halves of an exchange do to the inlet, the outlet and the table, and why they are
-- refused.
use Rattle.std.specs.Prelude.{◌≡◌, ◌≢◌, ◌<◌, ◌≤◌, ◌⊎◌, ℕ, Bool, List, Some, ◌++◌, length}
use Rattle.std.specs.Io.KnownBytes.{Keeps}
use Rattle.swim_claim.specs.declared.claim.Claim.{Claim}
use Rattle.swim_pack.specs.Composing.{UnlessFailed}
use Rattle.swim_pack.specs.Ends.{Source, Sink, ConsumesText, NoTextAtFront, CountsFault, AppendsFront}
use Rattle.swim_wire.specs.declared.fault.WireFault.{WireFault}
use Rattle.swim_wire.specs.declared.fault.WireFault.TheVariants as wire
use Rattle.swim_wire.specs.Checks.{ReasonForStart}
use Rattle.swim_wire.specs.Limits.{max_nodes}
use Rattle.swim_wire.specs.Reading.{wire_cause}
use Rattle.swim_wire.specs.Streams.{StreamText}
use Rattle.swim_table.specs.Dump.{dump_bytes}
use Rattle.swim_table.specs.Steps.{ReasonForStream}
use Rattle.swim_table.specs.Table.{Entries, Reduced, TableOf, IsLegalTable}
use Rattle.swim_sync.specs.declared.fault.SyncFault.{SyncFault}
use Rattle.swim_sync.specs.declared.fault.SyncFault.TheVariants.{Wire, TooManyRecords, Push, Memory}

-- One stream with this join flag was consumed, or came from an inlet whose bytes are unknown, and
-- the table took its claims in.
pub record TakesStream (old new : Source) (before after : Entries) (join : Bool) : Type 0 where
  pub claims : List Claim
  pub taken : ConsumesText old new (λ b. StreamText b claims join)
  pub reduced : TableOf after (Reduced before ++ claims)
  pub all : (others : List Claim) → TableOf before others → TableOf after (others ++ claims)

-- One stream with this join flag was consumed, and the offered table is that of its claims.
abbrev pub ReadsOffer : Source → Source → Entries → Bool → Type 0
ReadsOffer old new offered join = (claims : List Claim) × TableOf offered claims
    × ConsumesText old new (λ b. StreamText b claims join)

-- A table that can be sent: its claims are within their limits, and a dump has room for them.
pub record IsSendable (table : Entries) : Type 0 where
  pub legal : IsLegalTable table
  pub few : length (Reduced table) ≤ max_nodes

-- The dump of the table is to come with this join flag, and after it these bytes.
abbrev pub Brings : Source → Entries → Bool → List ℕ → Type 0
Brings source table join rest = source.coming ≡ Some (dump_bytes table join ++ rest)

-- The dump of the other table is to come, with either join flag and any bytes after it, and the
-- table took in one stream at their start.
pub record TakesDump (before after other : Entries) : Type 0 where
  pub old : Source
  pub new : Source
  pub sent : Bool
  pub read : Bool
  pub rest : List ℕ
  pub brings : Brings old other sent rest
  pub takes : TakesStream old new before after read

-- more records than a dump may have
abbrev pub HasTooMany : Entries → Type 0
HasTooMany table = max_nodes < length (Reduced table)

-- The bytes do not start with a stream, and the fault says why; or the inlet failed.
pub record LacksStream (old new : Source) (fault : WireFault) : Type 0 where
  pub no_memory : fault ≢ wire.Memory
  pub lacks : UnlessFailed (wire_cause fault)
      (NoTextAtFront old (λ b. (claims : List Claim) × (join : Bool) × StreamText b claims join))
  pub reason : ReasonForStart (ReasonForStream fault) old
  pub failed : fault ≡ wire.Fault → CountsFault old.faults new.faults

-- The outlet failed, and a prefix of the table's dump with this join flag was pushed.
pub record PushesFront (old new : Sink) (table : Entries) (join : Bool) : Type 0 where
  pub failed : CountsFault old.faults new.faults
  pub front : AppendsFront old.written new.written (dump_bytes table join)

-- why a table is not offered
abbrev pub IsOfferRefused : Sink → Sink → Entries → Bool → SyncFault → Type 0
IsOfferRefused old new table join (Wire error) = ⊥
IsOfferRefused old new table join TooManyRecords = HasTooMany table × Keeps old.written new.written
IsOfferRefused old new table join Push = PushesFront old new table join
IsOfferRefused old new table join Memory = Keeps old.written new.written

-- why an answer is not prepared: because of too many records only after a stream was read
abbrev pub IsPrepareRefused : Source → Source → Entries → SyncFault → Type 0
IsPrepareRefused old new table (Wire error) = LacksStream old new error
IsPrepareRefused old new table TooManyRecords =
    HasTooMany table
    × ((claims : List Claim) × (join : Bool) × ConsumesText old new (λ b. StreamText b claims join))
IsPrepareRefused old new table Push = ⊥
IsPrepareRefused old new table Memory = Unit {0}

-- why a stream is not answered
abbrev pub IsAnswerRefused : Source → Source → Sink → Sink → Entries → SyncFault → Type 0
IsAnswerRefused old new out_old out_new table (Wire error) = LacksStream old new error
    × Keeps out_old.written out_new.written
IsAnswerRefused old new out_old out_new table TooManyRecords = HasTooMany table
    × Keeps out_old.written out_new.written
IsAnswerRefused old new out_old out_new table Push =
    (claims : List Claim) × (join : Bool) × ConsumesText old new (λ b. StreamText b claims join)
    × PushesFront out_old out_new table join
IsAnswerRefused old new out_old out_new table Memory = Keeps out_old.written out_new.written

-- why a reply is not taken in
abbrev pub IsFinishRefused : Source → Source → SyncFault → Type 0
IsFinishRefused old new (Wire error) = LacksStream old new error
IsFinishRefused old new TooManyRecords = ⊥
IsFinishRefused old new Push = ⊥
IsFinishRefused old new Memory = Unit {0}

-- why two tables are not exchanged
abbrev pub IsExchangeRefused : Entries → Entries → SyncFault → Type 0
IsExchangeRefused first second (Wire error) = ⊥
IsExchangeRefused first second TooManyRecords = HasTooMany first ⊎ HasTooMany second
IsExchangeRefused first second Push = ⊥
IsExchangeRefused first second Memory = (¬ HasTooMany first) × (¬ HasTooMany second)
