-- Nodes that take claims in, and that refute.
use Rattle.std.specs.Prelude.{◌≡◌, ◌≢◌, ◌⊎◌, ℕ, List, ◌++◌, map, Bool, true, false, Err}
use Rattle.swim_claim.specs.declared.claim.Claim.{Claim}
use Rattle.swim_wire.specs.declared.fault.WireFault.{WireFault}
use Rattle.swim_wire.specs.declared.fault.WireFault.TheVariants.{Memory, Fault}
use Rattle.swim_wire.specs.Asking.{DatagramAsks}
use Rattle.swim_wire.specs.Datagrams.{whole_datagram, ReasonForDatagram}
use Rattle.swim_wire.specs.Fault.{wire_number}
use Rattle.swim_wire.specs.Packet.{PacketValue}
use Rattle.swim_wire.specs.Texts.{DatagramText}
use Rattle.swim_table.specs.Node.{NodeValue, SameMember}
use Rattle.swim_table.specs.Refuting.{IsAtRest, IsDueInRange, IsExhausted, IsGone, IsRefutedBy}
use Rattle.swim_table.specs.Table.{Entries, Reduced, TableOf}
use Rattle.swim_c.specs.Statuses as statuses

-- the table took in these claims and no others
pub record TakesClaims (claims : List Claim) (before after : Entries) : Type 0 where
  pub reduced : TableOf after (Reduced before ++ claims)
  pub all : (others : List Claim) → TableOf before others → TableOf after (others ++ claims)

-- the bytes are a packet or a compound packet, and the node took its claims in
pub record TakesDatagram (bytes : List ℕ) (before after : NodeValue) : Type 0 where
  pub packets : List PacketValue
  pub text : DatagramText bytes packets
  pub taken : TakesClaims (map (λ p. p.claim) packets) before.table after.table
  pub member : SameMember before after

-- The bytes are neither, and this is the fault at which reading stops.
pub record IsNoDatagram (bytes : List ℕ) (fault : WireFault) : Type 0 where
  pub none : (packets : List PacketValue) → ¬ DatagramText bytes packets
  pub reason : ReasonForDatagram fault bytes
  pub exact : whole_datagram bytes ≡ Err fault
  pub no_end : fault ≢ Fault

-- Memory is requested to read the datagram, or after that for its claims.
abbrev pub HearingAsks : List ℕ → Type 0
HearingAsks bytes = DatagramAsks bytes
    ⊎ ((packets : List PacketValue) × DatagramText bytes packets)

-- The claims of a datagram were taken in (0). Or the node is unchanged, and the status is that of
-- the bytes' fault, or 10 if memory was requested.
pub data TakeDone (bytes : List ℕ) (status : ℕ) (before after : NodeValue) : Type 0 where
  taken : status ≡ 0 → TakesDatagram bytes before after → TakeDone bytes status before after
  refused : (fault : WireFault) → status ≡ wire_number fault → fault ≢ Memory
      → IsNoDatagram bytes fault → after ≡ before
      → TakeDone bytes status before after
  memory : status ≡ statuses.memory → HearingAsks bytes → after ≡ before
      → TakeDone bytes status before after

-- A refutation was made at this incarnation, or none is due. Or one is due, and there is no
-- incarnation for it (24), or memory was refused (10). Or the member is gone (25).
pub data RefuteDone (status : ℕ) (due : Bool) (inc : ℕ) (before after : NodeValue) : Type 0 where
  refuted : status ≡ 0 → due ≡ true → IsRefutedBy before after inc → SameMember before after
      → RefuteDone status due inc before after
  at_rest : status ≡ 0 → due ≡ false → inc ≡ 0 → IsAtRest before → after ≡ before
      → RefuteDone status due inc before after
  exhausted : status ≡ 24 → due ≡ false → inc ≡ 0 → IsExhausted before → after ≡ before
      → RefuteDone status due inc before after
  gone : (at : ℕ) → status ≡ 25 → due ≡ false → inc ≡ 0 → IsGone before at → after ≡ before
      → RefuteDone status due inc before after
  memory : status ≡ statuses.memory → due ≡ false → inc ≡ 0 → IsDueInRange before → after ≡ before
      → RefuteDone status due inc before after
