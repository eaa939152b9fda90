-- What the status of a refused call says.
use Rattle.std.proofs.Common.{◌≡◌, ◌≢◌, inl, inr, ◌∙◌, ap, sym, subst, ℕ, ◌-◌, List, ◌++◌, Bool, length, ◌≤◌, false}
use Rattle.std.proofs.Common.{refl, Some, Result, Err, arith}
use Rattle.swim_claim.specs.declared.claim.Claim.{Claim}
use Rattle.swim_pack.specs.Composing.{UnlessFailed}
use Rattle.swim_pack.specs.Ends.{Source, NoTextAtFront, CountsFault}
use Rattle.swim_wire.specs.declared.fault.WireFault.{WireFault}
use Rattle.swim_wire.specs.declared.fault.WireFault.TheVariants as wire
use Rattle.swim_wire.specs.Asking.{PacketAsks, DatagramAsks}
use Rattle.swim_wire.specs.Checks.{ReasonForStart, ReasonForWhole}
use Rattle.swim_wire.specs.Datagrams.{ReasonForDatagram}
use Rattle.swim_wire.specs.Fault.{wire_number}
use Rattle.swim_wire.specs.Reading.{wire_cause}
use Rattle.swim_wire.specs.Streams.{StreamText}
use Rattle.swim_wire.proofs.Reasons.{memory_or}
use Rattle.swim_table.proofs.WholeStreams.{HasNone, refused_front}
use Rattle.swim_table.specs.declared.fault.EncodeFault.{EncodeFault}
use Rattle.swim_table.specs.declared.fault.EncodeFault.TheVariants as encode
use Rattle.swim_table.specs.declared.fault.RefuteFault.{RefuteFault}
use Rattle.swim_table.specs.declared.fault.RefuteFault.TheVariants as refute
use Rattle.swim_table.specs.Fault.{refute_number}
use Rattle.swim_table.specs.Node.{NodeValue}
use Rattle.swim_table.specs.Refuting.{IsDueInRange, IsExhausted, IsGone}
use Rattle.swim_table.specs.Steps.{ReasonForStream}
use Rattle.swim_table.specs.Table.{Entries}
use Rattle.swim_sync.specs.declared.fault.SyncFault.{SyncFault}
use Rattle.swim_sync.specs.declared.fault.SyncFault.TheVariants as sync
use Rattle.swim_sync.specs.Exchanging as exchanging
use Rattle.swim_sync.specs.Fault.{fault_of_wire, fault_of_encode}
use Rattle.swim_c.specs.Exchanges.{HoldsNoStream, FinishCause, AnswerCause}
use Rattle.swim_c.specs.Forms.{Wanted, HasTooManyIn}
use Rattle.swim_c.specs.Taking.{IsNoDatagram, HearingAsks, TakeDone, RefuteDone}
use Rattle.swim_c.specs.Compound.{LacksPackets, PackingAsks, CompoundDone}
use Rattle.swim_c.proofs.WholeStreams.{ReadsNews, begins}

abbrev pub refused : (X : Type 0) → WireFault → Result X WireFault
refused X fault = Err fault

-- bytes in memory, as an inlet
abbrev pub memory : List ℕ → Source
memory bytes = record { coming = Some bytes; faults = 0 }

-- bytes in memory that do not begin with a stream
pub lacks : (bytes rest : List ℕ) (fault : WireFault)
    → exchanging.LacksStream (memory bytes) (memory rest) fault → HoldsNoStream bytes fault
lacks bytes rest fault why =
    let no_end : fault ≢ wire.Fault = λ e. let rises = why.failed e in omega (arith, rises) in record {
      no_memory = why.no_memory;
      no_end = no_end;
      lacks = λ text rest claims join stream parts. why.no_memory
          (refused_front fault bytes text rest claims join why.lacks no_end stream parts);
      reason = why.reason;
    }

-- if memory was refused, the datagram requested some
pub explained_memory : {X : Type 0} (bytes : List ℕ) (fault : WireFault)
    → refused X fault ≡ refused X wire.Memory → ReasonForDatagram fault bytes
    → DatagramAsks bytes
explained_memory bytes fault e why = let is : fault ≡ wire.Memory = cc in subst (λ (f : WireFault). ReasonForDatagram f bytes) is why

-- the same for a packet
pub packet_memory : {X : Type 0} (text : List ℕ) (fault : WireFault)
    → refused X fault ≡ refused X wire.Memory → ReasonForWhole fault text → PacketAsks text
packet_memory text fault e why = let is : fault ≡ wire.Memory = cc in subst (λ (f : WireFault). ReasonForWhole f text) is why

-- a datagram was refused, because memory was, or because it is invalid
pub take_done : {X : Type 0} (bytes : List ℕ) (status : ℕ) (before after : NodeValue) (fault : WireFault)
    → status ≡ wire_number fault → after ≡ before
    → (fault ≢ wire.Memory → IsNoDatagram bytes fault)
    → (refused X fault ≡ refused X wire.Memory → HearingAsks bytes)
    → TakeDone bytes status before after
take_done {X} bytes status before after fault is same why memory = elim (memory_or fault) [
  | inl wants ↦ TakeDone.memory (is ∙ ap wire_number wants) (memory (ap (refused X) wants)) same
  | inr other ↦ TakeDone.refused fault is other (why other) same
]

-- packets were refused, because memory was, or because they are invalid
pub compound_refused : {X : Type 0} (bytes lens old new : List ℕ) (status len : ℕ) (fault : WireFault) → length lens ≤ 255
    → status ≡ wire_number fault → len ≡ 0 → new ≡ old → (fault ≢ wire.Memory → LacksPackets lens bytes fault)
    → (refused X fault ≡ refused X wire.Memory → PackingAsks lens bytes) → CompoundDone bytes lens old new status len
compound_refused {X} bytes lens old new status len fault few is no_len same why memory = elim (memory_or fault) [
  | inl wants ↦ CompoundDone.memory few (is ∙ ap wire_number wants) (memory (ap (refused X) wants)) no_len same
  | inr other ↦ CompoundDone.refused few fault is other (why other) no_len same
]

-- a fault of a stream other than a lack of memory
is_wire : (fault : WireFault) → fault ≢ wire.Memory → fault_of_wire fault ≡ sync.Wire fault
is_wire wire.Memory other = absurd (other refl)
is_wire error other = refl

-- a reply was refused, because memory was, or because it is invalid
pub unread : (bytes inlet rest : List ℕ) (fault : WireFault) → inlet ≡ bytes
    → UnlessFailed (wire_cause fault) (NoTextAtFront (memory inlet) (λ b. (claims : List Claim) × (join : Bool) × StreamText b claims join))
    → ReasonForStart (ReasonForStream fault) (memory inlet) → (fault ≡ wire.Fault → CountsFault 0 0)
    → FinishCause bytes (fault_of_wire fault)
unread bytes inlet rest fault is none reason failed = elim (memory_or fault) [
  | inl wants ↦ subst (λ (f : WireFault). FinishCause bytes (fault_of_wire f)) (sym wants) tt
  | inr other ↦
      subst (FinishCause bytes) (sym (is_wire fault other))
      (lacks bytes rest fault (subst (λ (b : List ℕ). exchanging.LacksStream (memory b) (memory rest) fault) is
      (record { no_memory = other; lacks = none; reason = reason; failed = failed })))
]

-- no stream was read, so none is answered
pub stream_unread : (form : Wanted) (bytes inlet rest : List ℕ) (table : Entries) (fault : WireFault) → inlet ≡ bytes
    → UnlessFailed (wire_cause fault) (HasNone inlet) → ReasonForStream fault inlet
    → (fault ≡ wire.Fault → CountsFault 0 0) → AnswerCause form bytes table (fault_of_wire fault)
stream_unread form bytes inlet rest table fault is none reason failed = elim (memory_or fault) [
  | inl wants ↦ subst (λ (f : WireFault). AnswerCause form bytes table (fault_of_wire f)) (sym wants) tt
  | inr other ↦
      let why : exchanging.LacksStream (memory inlet)
      (memory rest) fault = record {
        no_memory = other;
        lacks = none;
        reason = reason;
        failed = failed;
      } in
      subst (λ (f : SyncFault). AnswerCause form bytes table f) (sym (is_wire fault other))
      (subst (λ (b : List ℕ). HoldsNoStream b fault) is (lacks inlet rest fault why))
]

-- a stream was read, but there is no reply: it has too many records, or memory was refused
pub reply_refused : (form : Wanted) (bytes inlet rest : List ℕ) (known news table own : Entries)
    (join : Bool) (fault : EncodeFault) → inlet ≡ bytes → own ≡ table
    → ReadsNews (memory inlet) (memory rest) known news join → (fault ≡ encode.TooManyRecords → HasTooManyIn form own)
    → AnswerCause form bytes table (fault_of_encode fault)
reply_refused form bytes inlet rest known news table own join encode.TooManyRecords is same read many = (
  subst (HasTooManyIn form) same (many refl),
  (
    join,
    length bytes - length rest,
    (
      read.0,
      begins bytes rest read.0 join
          (subst (λ (b : List ℕ). (text : List ℕ) × StreamText text read.0 join
          × (b ≡ text ++ rest)) is read.2),
    ),
  ),
)
reply_refused form bytes inlet rest known news table own join encode.Memory is same read many = tt

pub refute_done : (before after : NodeValue) (fault : RefuteFault) → after ≡ before
    → (fault ≡ refute.Exhausted → IsExhausted before)
    → ((at : ℕ) → fault ≡ refute.Gone at → IsGone before at)
    → (fault ≡ refute.Memory → IsDueInRange before)
    → RefuteDone (refute_number fault) false 0 before after
refute_done before after refute.Exhausted same exhausted gone memory = RefuteDone.exhausted refl refl refl (exhausted refl) same
refute_done before after (refute.Gone at) same exhausted gone memory = RefuteDone.gone at refl refl refl (gone at refl) same
refute_done before after refute.Memory same exhausted gone memory = RefuteDone.memory refl refl refl (memory refl) same
