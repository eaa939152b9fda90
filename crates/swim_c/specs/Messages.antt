-- Messages that make no claims, as a program in another language writes and reads them.
use Rattle.std.specs.Prelude.{◌≡◌, ◌⊎◌, ◌<◌, ◌≤◌, ℕ, false, List, [], ◌++◌, length, drop, replicate, take, min, Ok, Err}
use Rattle.swim_claim.specs.Limits.{max_name_len}
use Rattle.swim_wire.specs.declared.fault.WireFault.{WireFault}
use Rattle.swim_wire.specs.Fault.{wire_number}
use Rattle.memberlist_message.specs.Messages.{PingValue, IndirectPingValue, AckValue, MessageValue, message_of}
use Rattle.memberlist_message.specs.Messages.MessageValue.{ping, indirect_ping, ack, nack}
use Rattle.swim_c.specs.declared.probe.Probe.{Probe}
use Rattle.swim_c.specs.Statuses as statuses

-- bytes at the start of room for this many, and then zeros
abbrev pub padded : ℕ → List ℕ → List ℕ
padded size bytes = bytes ++ drop (length bytes) (replicate size 0)

-- nothing but a kind and a number
abbrev pub blank : ℕ → ℕ → Probe
blank kind seq = record {
  payload_len = 0;
  kind = kind;
  seq = seq;
  port = 0;
  source_port = 0;
  node_len = 0;
  source_len = 0;
  addr_len = 0;
  source_addr_len = 0;
  nack = false;
  addr = replicate 16 0;
  source_addr = replicate 16 0;
  node = replicate 1024 0;
  source = replicate 1024 0;
  payload = replicate 1024 0;
  reserved = replicate 32 0;
}

-- the name of the member that is pinged, and who asks
abbrev pub with_names : Probe → List ℕ → List ℕ → ℕ → List ℕ → Probe
with_names p node addr port source = record p {
  node_len = length node;
  node = padded 1024 node;
  source_addr_len = length addr;
  source_addr = padded 16 addr;
  source_port = port;
  source_len = length source;
  source = padded 1024 source;
}

abbrev pub ping_probe : PingValue → Probe
ping_probe p = with_names (blank 0 p.seq_no) p.node p.source_addr p.source_port p.source_node

abbrev pub indirect_probe : IndirectPingValue → Probe
indirect_probe p =
    record (with_names (blank 1 p.seq_no) p.node p.source_addr p.source_port p.source_node) {
      addr_len = length p.target;
      addr = padded 16 p.target;
      port = p.port;
      nack = p.nack;
    }

-- the whole length of the payload, and what there is room for of it
abbrev pub ack_probe : AckValue → Probe
ack_probe a = record (blank 2 a.seq_no) {
  payload_len = length a.payload;
  payload = padded 1024 (take (min (length a.payload) 1024) a.payload);
}

-- an address has 4 or 16 bytes, or none if it is not given
abbrev pub IsPlace : List ℕ → Type 0
IsPlace addr = (length addr ≡ 0) ⊎ (length addr ≡ 4) ⊎ (length addr ≡ 16)

-- names as members have them, or none
pub record HasNames (node source : List ℕ) : Type 0 where
  pub node_fits : length node ≤ max_name_len
  pub source_fits : length source ≤ max_name_len

-- why a message is not written or read: a name is too long (12); or an address has another length
-- (13)
abbrev pub IsUnfit : List ℕ → List ℕ → List ℕ → List ℕ → ℕ → Type 0
IsUnfit node addr source source_addr status =
    ((status ≡ 12) × (¬ HasNames node source))
    ⊎ ((status ≡ 13) × HasNames node source × (¬ (IsPlace addr × IsPlace source_addr)))

-- the same, or memory was refused (10)
abbrev pub IsUnsent : List ℕ → List ℕ → List ℕ → List ℕ → ℕ → Type 0
IsUnsent node addr source source_addr status =
    IsUnfit node addr source source_addr status ⊎ (status ≡ statuses.memory)

-- a payload of more than 65,535 bytes is too long (6), or memory was refused (10)
abbrev pub IsTooLong : List ℕ → ℕ → Type 0
IsTooLong payload status = ((status ≡ 6) × (65535 < length payload)) ⊎ (status ≡ statuses.memory)

-- What a ping says was copied (0), or it does not fit.
pub data PingRead (p : PingValue) (status : ℕ) (old new : Probe) : Type 0 where
  copied : status ≡ 0 → new ≡ ping_probe p → PingRead p status old new
  unfit : IsUnfit p.node [] p.source_node p.source_addr status → new ≡ old
      → PingRead p status old new

-- the same of an indirect ping
pub data IndirectRead (p : IndirectPingValue) (status : ℕ) (old new : Probe) : Type 0 where
  copied : status ≡ 0 → new ≡ indirect_probe p → IndirectRead p status old new
  unfit : IsUnfit p.node p.target p.source_node p.source_addr status → new ≡ old
      → IndirectRead p status old new

-- What the message says was copied (0), or it does not fit; it is another one (16), and nothing was.
abbrev pub CopyDone : MessageValue → ℕ → Probe → Probe → Type 0
CopyDone (ping p) status old new = PingRead p status old new
CopyDone (indirect_ping p) status old new = IndirectRead p status old new
CopyDone (ack a) status old new = (status ≡ 0) × (new ≡ ack_probe a)
CopyDone (nack seq) status old new = (status ≡ 0) × (new ≡ blank 11 seq)
CopyDone m status old new = (status ≡ statuses.wrong_type) × (new ≡ old)

-- There is a message, and what it says was copied, if it says such things. Or nothing was: the bytes
-- are none, and the status is that of the fault at which reading stops; or memory was refused (10).
pub data ReadDone (text : List ℕ) (status : ℕ) (old new : Probe) : Type 0 where
  message : (m : MessageValue) → message_of text ≡ Ok m → CopyDone m status old new
      → ReadDone text status old new
  refused : (fault : WireFault) → message_of text ≡ Err fault → status ≡ wire_number fault
      → new ≡ old → ReadDone text status old new
  memory : status ≡ statuses.memory → new ≡ old → ReadDone text status old new
