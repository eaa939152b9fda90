-- The fields of a message are the values in the slots of its map.
use Rattle.std.specs.Prelude.{◌≡◌, ◌≤◌, length}
use Rattle.swim_claim.specs.Limits.{max_meta_len, max_name_len}
use Rattle.swim_wire.specs.declared.message.Alive.{Alive}
use Rattle.swim_wire.specs.declared.message.Accusation.{Accusation}
use Rattle.swim_wire.specs.declared.message.PushPullHeader.{PushPullHeader}
use Rattle.swim_wire.specs.declared.message.PushNodeState.{PushNodeState}
use Rattle.swim_wire.specs.InOrder.{state_slots, alive_slots, accusation_slots, header_slots}
use Rattle.swim_wire.specs.Places.{alive_addr, alive_incarnation, alive_meta, alive_node, alive_port, alive_vsn}
use Rattle.swim_wire.specs.Places.{accusation_from, accusation_incarnation, accusation_node, header_join, header_nodes}
use Rattle.swim_wire.specs.Places.{header_user_state_len, state_addr, state_incarnation, state_meta, state_name}
use Rattle.swim_wire.specs.Places.{state_port, state_state, state_vsn}
use Rattle.swim_wire.specs.Reading.{Slots, number_in, raw_in, flag_in}

-- memberlist's alive
pub record HasAliveFields (slots : Slots) (alive : Alive) : Type 0 where
  pub addr : alive.addr.now ≡ raw_in slots alive_addr
  pub incarnation : alive.incarnation ≡ number_in slots alive_incarnation
  pub meta : alive.meta.now ≡ raw_in slots alive_meta
  pub node : alive.node.now ≡ raw_in slots alive_node
  pub port : alive.port ≡ number_in slots alive_port
  pub vsn : alive.vsn.now ≡ raw_in slots alive_vsn

-- memberlist's suspect and dead
pub record HasAccusationFields (slots : Slots) (accusation : Accusation) : Type 0 where
  pub from : accusation.from.now ≡ raw_in slots accusation_from
  pub incarnation : accusation.incarnation ≡ number_in slots accusation_incarnation
  pub node : accusation.node.now ≡ raw_in slots accusation_node

-- memberlist's pushPullHeader
pub record HasHeaderFields (slots : Slots) (header : PushPullHeader) : Type 0 where
  pub join : header.join ≡ flag_in slots header_join
  pub nodes : header.nodes ≡ number_in slots header_nodes
  pub user_state_len : header.user_state_len ≡ number_in slots header_user_state_len

-- memberlist's pushNodeState
pub record HasStateFields (slots : Slots) (state : PushNodeState) : Type 0 where
  pub addr : state.addr.now ≡ raw_in slots state_addr
  pub incarnation : state.incarnation ≡ number_in slots state_incarnation
  pub meta : state.meta.now ≡ raw_in slots state_meta
  pub name : state.name.now ≡ raw_in slots state_name
  pub port : state.port ≡ number_in slots state_port
  pub number : state.state ≡ number_in slots state_state
  pub vsn : state.vsn.now ≡ raw_in slots state_vsn

-- ---- the slots of a map with these fields and all its keys

abbrev pub slots_of_alive : Alive → Slots
slots_of_alive alive =
    alive_slots alive.addr.now alive.incarnation alive.meta.now alive.node.now alive.port
    alive.vsn.now

abbrev pub slots_of_accusation : Accusation → Slots
slots_of_accusation accusation =
    accusation_slots accusation.from.now accusation.incarnation accusation.node.now

abbrev pub slots_of_header : PushPullHeader → Slots
slots_of_header header = header_slots header.join header.nodes header.user_state_len

abbrev pub slots_of_state : PushNodeState → Slots
slots_of_state state =
    state_slots state.addr.now state.incarnation state.meta.now state.name.now state.port
    state.state state.vsn.now

-- ---- the fields are within the limits of names and metadata

pub record IsShortAlive (alive : Alive) : Type 0 where
  pub node : length alive.node.now ≤ max_name_len
  pub meta : length alive.meta.now ≤ max_meta_len

pub record IsShortAccusation (accusation : Accusation) : Type 0 where
  pub from : length accusation.from.now ≤ max_name_len
  pub node : length accusation.node.now ≤ max_name_len

pub record IsShortState (state : PushNodeState) : Type 0 where
  pub name : length state.name.now ≤ max_name_len
  pub meta : length state.meta.now ≤ max_meta_len
