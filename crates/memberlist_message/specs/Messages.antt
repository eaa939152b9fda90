-- Messages as data, and their reading: the type byte, and then the fields in one value.
use Rattle.std.specs.Prelude.{ℕ, Bool, true, ◌==◌, List, [], ◌∷◌, Result, Ok, Err, if◌then◌else◌}
use Rattle.swim_wire.specs.declared.fault.WireFault.{WireFault}
use Rattle.swim_wire.specs.declared.fault.WireFault.TheVariants.{Ended, WrongType}
use Rattle.swim_wire.specs.Packet.{PacketValue}
use Rattle.memberlist_message.specs.declared.message.Ping.{Ping}
use Rattle.memberlist_message.specs.declared.message.IndirectPing.{IndirectPing}
use Rattle.memberlist_message.specs.declared.message.Ack.{Ack}
use Rattle.memberlist_message.specs.declared.message.Message.{Message}
use Rattle.memberlist_message.specs.declared.message.Message.TheVariants as messages
use Rattle.memberlist_message.specs.Claims.{alive_of, suspect_of, dead_of, and_then, long_in, short_in, raw_in}
use Rattle.memberlist_message.specs.Layouts.{ping_layout, indirect_ping_layout, ack_layout, nack_layout, error_layout}
use Rattle.memberlist_message.specs.Layouts.{accusation_layout, alive_layout}
use Rattle.memberlist_message.specs.Reading.{Fields, fields_at, without_rest}
use Rattle.memberlist_message.specs.Slots.{Slots, slot, flag_or_false}

-- memberlist's ping
pub record PingValue : Type 0 where
  pub seq_no : ℕ
  pub node : List ℕ
  pub source_addr : List ℕ
  pub source_port : ℕ
  pub source_node : List ℕ

-- memberlist's indirectPingReq
pub record IndirectPingValue : Type 0 where
  pub seq_no : ℕ
  pub target : List ℕ
  pub port : ℕ
  pub node : List ℕ
  pub nack : Bool
  pub source_addr : List ℕ
  pub source_port : ℕ
  pub source_node : List ℕ

-- memberlist's ackResp
pub record AckValue : Type 0 where
  pub seq_no : ℕ
  pub payload : List ℕ

-- a message: its type, and its fields
pub data MessageValue : Type 0 where
  ping : PingValue → MessageValue
  indirect_ping : IndirectPingValue → MessageValue
  ack : AckValue → MessageValue
  nack : ℕ → MessageValue
  user : List ℕ → MessageValue
  error : List ℕ → MessageValue
  claim : PacketValue → MessageValue

-- ---- what the code keeps, as data

abbrev pub ping_value : Ping → PingValue
ping_value p = record {
  seq_no = p.seq_no;
  node = p.node.items;
  source_addr = p.source_addr.items;
  source_port = p.source_port;
  source_node = p.source_node.items;
}

abbrev pub indirect_ping_value : IndirectPing → IndirectPingValue
indirect_ping_value p = record {
  seq_no = p.seq_no;
  target = p.target.items;
  port = p.port;
  node = p.node.items;
  nack = p.nack;
  source_addr = p.source_addr.items;
  source_port = p.source_port;
  source_node = p.source_node.items;
}

abbrev pub ack_value : Ack → AckValue
ack_value a = record { seq_no = a.seq_no; payload = a.payload.items }

abbrev pub message_value : Message → MessageValue
message_value (messages.Ping p) = MessageValue.ping (ping_value p)
message_value (messages.IndirectPing p) = MessageValue.indirect_ping (indirect_ping_value p)
message_value (messages.Ack a) = MessageValue.ack (ack_value a)
message_value (messages.Nack n) = MessageValue.nack n.seq_no
message_value (messages.User bytes) = MessageValue.user bytes.items
message_value (messages.Error response) = MessageValue.error response.error.items
message_value (messages.Claim packet) = MessageValue.claim packet

-- ---- the fields in the slots of their layout

abbrev pub ping_of : Slots → PingValue
ping_of slots = record {
  seq_no = long_in slots 0;
  node = raw_in slots 1;
  source_addr = raw_in slots 2;
  source_port = short_in slots 3;
  source_node = raw_in slots 4;
}

abbrev pub indirect_ping_of : Slots → IndirectPingValue
indirect_ping_of slots = record {
  seq_no = long_in slots 0;
  target = raw_in slots 1;
  port = short_in slots 2;
  node = raw_in slots 3;
  nack = flag_or_false (slot slots 4);
  source_addr = raw_in slots 5;
  source_port = short_in slots 6;
  source_node = raw_in slots 7;
}

abbrev pub ack_of : Slots → AckValue
ack_of slots = record { seq_no = long_in slots 0; payload = raw_in slots 1 }

-- ---- the reading

-- what is made of the fields of this layout, whatever follows them
abbrev pub with_fields : {A : Type 0} → Fields → (Slots → Result A WireFault) → List ℕ → Result A WireFault
with_fields layout of_slots body = and_then (without_rest (fields_at layout body)) of_slots

-- ---- each kind of message, after its type byte

unfoldable pub ping_after : List ℕ → Result MessageValue WireFault
ping_after body =
    with_fields ping_layout (λ slots. Ok (MessageValue.ping (ping_of slots))) body

unfoldable pub indirect_ping_after : List ℕ → Result MessageValue WireFault
indirect_ping_after body =
    with_fields indirect_ping_layout (λ slots. Ok (MessageValue.indirect_ping (indirect_ping_of slots))) body

unfoldable pub ack_after : List ℕ → Result MessageValue WireFault
ack_after body =
    with_fields ack_layout (λ slots. Ok (MessageValue.ack (ack_of slots))) body

unfoldable pub nack_after : List ℕ → Result MessageValue WireFault
nack_after body =
    with_fields nack_layout (λ slots. Ok (MessageValue.nack (long_in slots 0))) body

unfoldable pub error_after : List ℕ → Result MessageValue WireFault
error_after body =
    with_fields error_layout (λ slots. Ok (MessageValue.error (raw_in slots 0))) body

unfoldable pub alive_after : List ℕ → Result PacketValue WireFault
alive_after body =
    with_fields alive_layout alive_of body

unfoldable pub suspect_after : List ℕ → Result PacketValue WireFault
suspect_after body =
    with_fields accusation_layout suspect_of body

unfoldable pub dead_after : List ℕ → Result PacketValue WireFault
dead_after body =
    with_fields accusation_layout dead_of body

-- a message that makes a claim
unfoldable pub claim_after : ℕ → List ℕ → Result PacketValue WireFault
claim_after first body =
    if first == 4 then alive_after body else
    if first == 3 then suspect_after body else dead_after body

-- a message that makes no claim
unfoldable pub claimless_after : ℕ → List ℕ → Result MessageValue WireFault
claimless_after first body =
    if first == 0 then ping_after body else
    if first == 1 then indirect_ping_after body else
    if first == 2 then ack_after body else
    if first == 8 then Ok (MessageValue.user body) else
    if first == 11 then nack_after body else
    if first == 13 then error_after body else Err (WrongType first)

-- whether messages of this type make a claim
abbrev pub makes_claim : ℕ → Bool
makes_claim first = if first == 3 then true else (if first == 4 then true else first == 5)

-- a message, after its type byte
unfoldable pub message_after : ℕ → List ℕ → Result MessageValue WireFault
message_after first body =
    if makes_claim first then and_then (claim_after first body) (λ packet. Ok (MessageValue.claim packet))
    else claimless_after first body

-- the message in the bytes, or why there is none
unfoldable pub message_of : List ℕ → Result MessageValue WireFault
message_of [] = Err Ended
message_of (first ∷ body) = message_after first body
