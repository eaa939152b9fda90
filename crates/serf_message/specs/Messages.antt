-- Messages as data, and their reading: the type byte, and then the fields in one value.
use Rattle.std.specs.Prelude.{ℕ, ℤ, Bool, ◌==◌, List, [], ◌∷◌, map, Result, Ok, Err, if◌then◌else◌}
use Rattle.serf_message.specs.declared.fault.SerfFault.{SerfFault}
use Rattle.serf_message.specs.declared.fault.SerfFault.TheVariants.{Ended, WrongType}
use Rattle.serf_message.specs.declared.message.Leave.{Leave}
use Rattle.serf_message.specs.declared.message.Join.{Join}
use Rattle.serf_message.specs.declared.message.UserEvent.{UserEvent}
use Rattle.serf_message.specs.declared.message.Query.{Query}
use Rattle.serf_message.specs.declared.message.QueryResponse.{QueryResponse}
use Rattle.serf_message.specs.declared.message.Relay.{Relay}
use Rattle.serf_message.specs.declared.message.Message.{Message}
use Rattle.serf_message.specs.declared.message.Message.TheVariants as messages
use Rattle.serf_message.specs.Layouts.{leave_layout, join_layout, event_layout, query_layout, response_layout, relay_layout, address_layout}
use Rattle.serf_message.specs.Reading.{Fields, fields_at, fields_in, alone, and_then}
use Rattle.serf_message.specs.Many.{listed, fresh_bytes_at}
use Rattle.serf_message.specs.Slots.{Slots, huge_in, long_in, short_in, tiny_in, signed_in, raw_in, flag_in}

-- Serf's messageLeave
pub record LeaveValue : Type 0 where
  pub time : ℕ
  pub node : List ℕ
  pub prune : Bool

-- Serf's messageJoin
pub record JoinValue : Type 0 where
  pub time : ℕ
  pub node : List ℕ

-- Serf's messageUserEvent
pub record EventValue : Type 0 where
  pub time : ℕ
  pub name : List ℕ
  pub payload : List ℕ
  pub coalesce : Bool

-- Serf's messageQuery
pub record QueryValue : Type 0 where
  pub time : ℕ
  pub id : ℕ
  pub addr : List ℕ
  pub port : ℕ
  pub source_node : List ℕ
  pub filters : List (List ℕ)
  pub flags : ℕ
  pub relay_factor : ℕ
  pub timeout : ℤ
  pub name : List ℕ
  pub payload : List ℕ

-- Serf's messageQueryResponse
pub record ResponseValue : Type 0 where
  pub time : ℕ
  pub id : ℕ
  pub from : List ℕ
  pub flags : ℕ
  pub payload : List ℕ

-- Serf's relayHeader, and the message behind it
pub record RelayValue : Type 0 where
  pub addr : List ℕ
  pub port : ℕ
  pub zone : List ℕ
  pub name : List ℕ
  pub message : List ℕ

-- a message: its type, and its fields
pub data MessageValue : Type 0 where
  leave : LeaveValue → MessageValue
  join : JoinValue → MessageValue
  event : EventValue → MessageValue
  query : QueryValue → MessageValue
  response : ResponseValue → MessageValue
  relay : RelayValue → MessageValue

-- ---- what the code keeps, as data

abbrev pub leave_value : Leave → LeaveValue
leave_value m = record { time = m.time; node = m.node.items; prune = m.prune }

abbrev pub join_value : Join → JoinValue
join_value m = record { time = m.time; node = m.node.items }

abbrev pub event_value : UserEvent → EventValue
event_value m = record {
  time = m.time;
  name = m.name.items;
  payload = m.payload.items;
  coalesce = m.coalesce;
}

abbrev pub query_value : Query → QueryValue
query_value m = record {
  time = m.time;
  id = m.id;
  addr = m.addr.items;
  port = m.port;
  source_node = m.source_node.items;
  filters = map (λ v. v.items) m.filters.items;
  flags = m.flags;
  relay_factor = m.relay_factor;
  timeout = m.timeout;
  name = m.name.items;
  payload = m.payload.items;
}

abbrev pub response_value : QueryResponse → ResponseValue
response_value m = record {
  time = m.time;
  id = m.id;
  from = m.from.items;
  flags = m.flags;
  payload = m.payload.items;
}

abbrev pub relay_value : Relay → RelayValue
relay_value m = record {
  addr = m.addr.items;
  port = m.port;
  zone = m.zone.items;
  name = m.name.items;
  message = m.message.items;
}

abbrev pub message_value : Message → MessageValue
message_value (messages.Leave m) = MessageValue.leave (leave_value m)
message_value (messages.Join m) = MessageValue.join (join_value m)
message_value (messages.Event m) = MessageValue.event (event_value m)
message_value (messages.Query m) = MessageValue.query (query_value m)
message_value (messages.Response m) = MessageValue.response (response_value m)
message_value (messages.Relay m) = MessageValue.relay (relay_value m)

-- ---- the fields in the slots of their layout

abbrev pub leave_of : Slots → LeaveValue
leave_of slots = record { time = huge_in slots 0; node = raw_in slots 1; prune = flag_in slots 2 }

abbrev pub join_of : Slots → JoinValue
join_of slots = record { time = huge_in slots 0; node = raw_in slots 1 }

abbrev pub event_of : Slots → EventValue
event_of slots = record {
  time = huge_in slots 0;
  name = raw_in slots 1;
  payload = raw_in slots 2;
  coalesce = flag_in slots 3;
}

abbrev pub query_of : Slots → List (List ℕ) → QueryValue
query_of slots filters = record {
  time = huge_in slots 0;
  id = long_in slots 1;
  addr = raw_in slots 2;
  port = short_in slots 3;
  source_node = raw_in slots 4;
  filters = filters;
  flags = long_in slots 6;
  relay_factor = tiny_in slots 7;
  timeout = signed_in slots 8;
  name = raw_in slots 9;
  payload = raw_in slots 10;
}

abbrev pub response_of : Slots → ResponseValue
response_of slots = record {
  time = huge_in slots 0;
  id = long_in slots 1;
  from = raw_in slots 2;
  flags = long_in slots 3;
  payload = raw_in slots 4;
}

-- a relay header, the address in it, and the message behind it
abbrev pub relay_of : Slots → Slots → List ℕ → RelayValue
relay_of slots addr message = record {
  addr = raw_in addr 0;
  port = short_in addr 1;
  zone = raw_in addr 2;
  name = raw_in slots 1;
  message = message;
}

-- ---- the reading

-- what is made of the fields of this layout, if nothing follows them
abbrev pub with_fields : {A : Type 0} → Fields → (Slots → Result A SerfFault) → List ℕ → Result A SerfFault
with_fields layout of_slots body = and_then (alone (fields_at layout body)) of_slots

-- ---- each kind of message, after its type byte

unfoldable pub leave_after : List ℕ → Result MessageValue SerfFault
leave_after body = with_fields leave_layout (λ slots. Ok (MessageValue.leave (leave_of slots))) body

unfoldable pub join_after : List ℕ → Result MessageValue SerfFault
join_after body = with_fields join_layout (λ slots. Ok (MessageValue.join (join_of slots))) body

unfoldable pub event_after : List ℕ → Result MessageValue SerfFault
event_after body = with_fields event_layout (λ slots. Ok (MessageValue.event (event_of slots))) body

-- the query of these fields, if its filters are a list of bytes
unfoldable pub query_from : Slots → Result MessageValue SerfFault
query_from slots = and_then (listed fresh_bytes_at (raw_in slots 5)) (λ filters.
    Ok (MessageValue.query (query_of slots filters)))

unfoldable pub query_after : List ℕ → Result MessageValue SerfFault
query_after body = with_fields query_layout query_from body

unfoldable pub response_after : List ℕ → Result MessageValue SerfFault
response_after body =
    with_fields response_layout (λ slots. Ok (MessageValue.response (response_of slots))) body

-- the message behind a relay header is not read
unfoldable pub relay_after : List ℕ → Result MessageValue SerfFault
relay_after body = and_then (fields_at relay_layout body) (λ read.
    and_then (fields_in address_layout (raw_in read.0 0)) (λ addr.
    Ok (MessageValue.relay (relay_of read.0 addr read.1))))

-- a message, after its type byte
unfoldable pub message_after : ℕ → List ℕ → Result MessageValue SerfFault
message_after first body =
    if first == 0 then leave_after body else
    if first == 1 then join_after body else
    if first == 3 then event_after body else
    if first == 4 then query_after body else
    if first == 5 then response_after body else
    if first == 9 then relay_after body else Err (WrongType first)

-- the message in the bytes, or why there is none
unfoldable pub message_of : List ℕ → Result MessageValue SerfFault
message_of [] = Err Ended
message_of (first ∷ body) = message_after first body
