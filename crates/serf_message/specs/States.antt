-- The state that a push/pull carries (messages.go, serf.go), and its reading.
use Rattle.std.specs.Prelude.{ℕ, ◌<◌, ◌^◌, ◌==◌, ⊤, List, [], ◌∷◌, ◌++◌, length, map, Option, Some, None, Result, Ok, Err, if◌then◌else◌}
use Rattle.std.specs.List.{AllByRecursion, flat_map}
use Rattle.std.specs.Option.{option_map}
use Rattle.swim_pack.specs.Composing.{◌>>=◌, gives, refuses}
use Rattle.swim_pack.specs.Spelling.{number_text, raw_text}
use Rattle.serf_message.specs.declared.fault.SerfFault.{SerfFault}
use Rattle.serf_message.specs.declared.fault.SerfFault.TheVariants.{Ended}
use Rattle.serf_message.specs.declared.layout.Key.TheVariants as keys
use Rattle.serf_message.specs.declared.state.EventGroup.{EventGroup}
use Rattle.serf_message.specs.declared.state.GroupedEvent.{GroupedEvent}
use Rattle.serf_message.specs.declared.state.State.{State}
use Rattle.serf_message.specs.declared.state.StatusTime.{StatusTime}
use Rattle.serf_message.specs.Layouts.{state_layout, group_layout, grouped_layout}
use Rattle.serf_message.specs.Messages.{with_fields}
use Rattle.serf_message.specs.Reading.{Reading, and_then, body_of, fields_at, number_at, text_at, without_rest}
use Rattle.serf_message.specs.Many.{listed, many_at, map_len_at}
use Rattle.serf_message.specs.Slots.{Slots, huge_in, raw_in}
use Rattle.serf_message.specs.Writing.{Spelled, Entry, IsShortList, entries_text, list_len_text, map_len_text}

-- a member's name, and the Lamport time of its status
abbrev pub StatusValue : Type 0
StatusValue = List ℕ × ℕ

abbrev pub status_value : StatusTime → StatusValue
status_value s = (s.node.items, s.time)

-- the name of an event, and what it carries
abbrev pub GroupedValue : Type 0
GroupedValue = List ℕ × List ℕ

abbrev pub grouped_value : GroupedEvent → GroupedValue
grouped_value e = (e.name.items, e.payload.items)

-- Serf's userEvents: the events of one Lamport time
pub record GroupValue : Type 0 where
  pub time : ℕ
  pub events : List GroupedValue

abbrev pub group_value : EventGroup → GroupValue
group_value g = record { time = g.time; events = map grouped_value g.events.items }

-- a place of Serf's ring of events, which may be empty
abbrev pub place_value : Option EventGroup → Option GroupValue
place_value place = option_map group_value place

-- Serf's messagePushPull
pub record StateValue : Type 0 where
  pub time : ℕ
  pub status_times : List StatusValue
  pub left_members : List (List ℕ)
  pub event_time : ℕ
  pub events : List (Option GroupValue)
  pub query_time : ℕ

abbrev pub state_value : State → StateValue
state_value s = record {
  time = s.time;
  status_times = map status_value s.status_times.items;
  left_members = map (λ v. v.items) s.left_members.items;
  event_time = s.event_time;
  events = map place_value s.events.items;
  query_time = s.query_time;
}

-- ---- the reading

-- a name and a time
unfoldable pub status_at : Reading StatusValue
status_at = do
  node ← text_at
  time ← number_at 0xffff_ffff_ffff_ffff
  gives (node, time)

-- the names and times in the bytes of a value, which is a map; a value that was not read is empty
abbrev pub statuses_in : List ℕ → Result (List StatusValue) SerfFault
statuses_in [] = Ok []
statuses_in (first ∷ rest) = without_rest ((map_len_at >>= many_at status_at) (first ∷ rest))

-- an event
unfoldable pub grouped_at : Reading GroupedValue
grouped_at = do
  slots ← fields_at grouped_layout
  gives (raw_in slots 0, raw_in slots 1)

-- what was made of the fields, without consuming bytes
abbrev pub of_result : {A : Type 0} → Result A SerfFault → Reading A
of_result (Ok value) = gives value
of_result (Err fault) = refuses fault

-- the events of one time
unfoldable pub group_at : Reading GroupValue
group_at = do
  slots ← fields_at group_layout
  events ← of_result (listed grouped_at (raw_in slots 1))
  gives (record { time = huge_in slots 0; events = events })

-- a place of the ring of events; nil is an empty one
abbrev pub place_at : Reading (Option GroupValue)
place_at [] = Err Ended
place_at (first ∷ rest) =
    if first == 0xc0 then Ok (None, rest) else (group_at >>= (λ group. gives (Some group))) (first ∷ rest)

-- the state of these fields
unfoldable pub state_from : Slots → Result StateValue SerfFault
state_from slots =
    and_then (statuses_in (raw_in slots 1)) (λ status_times.
    and_then (listed text_at (raw_in slots 2)) (λ left_members.
    and_then (listed place_at (raw_in slots 4)) (λ events.
    Ok (record {
      time = huge_in slots 0;
      status_times = status_times;
      left_members = left_members;
      event_time = huge_in slots 3;
      events = events;
      query_time = huge_in slots 5;
    }))))

unfoldable pub state_after : List ℕ → Result StateValue SerfFault
state_after body = with_fields state_layout state_from body

-- a state: type 2 and its fields
abbrev pub state_of : List ℕ → Result StateValue SerfFault
state_of bytes = and_then (body_of 2 bytes) state_after

-- ---- what is written

abbrev pub status_text : StatusValue → List ℕ
status_text s = raw_text s.0 ++ number_text s.1

abbrev pub statuses_text : List StatusValue → List ℕ
statuses_text xs = map_len_text (length xs) ++ flat_map status_text xs

abbrev pub names_text : List (List ℕ) → List ℕ
names_text xs = list_len_text (length xs) ++ flat_map raw_text xs

abbrev pub grouped_entries : GroupedValue → List Entry
grouped_entries e = (keys.Name, Spelled.text e.0) ∷ (keys.Payload, Spelled.bytes e.1) ∷ []

abbrev pub grouped_text : GroupedValue → List ℕ
grouped_text e = entries_text (grouped_entries e)

abbrev pub all_grouped_text : List GroupedValue → List ℕ
all_grouped_text xs = list_len_text (length xs) ++ flat_map grouped_text xs

abbrev pub group_entries : GroupValue → List Entry
group_entries g =
    (keys.Events, Spelled.whole (all_grouped_text g.events)) ∷ (keys.Time, Spelled.number g.time) ∷ []

abbrev pub place_text : Option GroupValue → List ℕ
place_text None = 0xc0 ∷ []
place_text (Some g) = entries_text (group_entries g)

abbrev pub places_text : List (Option GroupValue) → List ℕ
places_text xs = list_len_text (length xs) ++ flat_map place_text xs

abbrev pub state_entries : StateValue → List Entry
state_entries s =
    (keys.EventTime, Spelled.number s.event_time) ∷ (keys.Events, Spelled.whole (places_text s.events))
    ∷ (keys.Time, Spelled.number s.time)
    ∷ (keys.LeftMembers, Spelled.whole (names_text s.left_members))
    ∷ (keys.QueryTime, Spelled.number s.query_time)
    ∷ (keys.StatusTimes, Spelled.whole (statuses_text s.status_times)) ∷ []

abbrev pub state_bytes : StateValue → List ℕ
state_bytes s = 2 ∷ entries_text (state_entries s)

-- ---- what is short enough for lengths in two bytes

abbrev pub IsShortStatus : StatusValue → Type 0
IsShortStatus s = length s.0 < 2 ^ 16

abbrev pub IsShortGrouped : GroupedValue → Type 0
IsShortGrouped e = (length e.0 < 2 ^ 16) × (length e.1 < 2 ^ 16)

abbrev pub IsShortGroup : GroupValue → Type 0
IsShortGroup g = (length g.events < 2 ^ 16) × AllByRecursion IsShortGrouped g.events

abbrev pub IsShortPlace : Option GroupValue → Type 0
IsShortPlace None = ⊤
IsShortPlace (Some g) = IsShortGroup g

pub record IsShortState (s : StateValue) : Type 0 where
  pub statuses : length s.status_times < 2 ^ 16
  pub each_status : AllByRecursion IsShortStatus s.status_times
  pub left_members : IsShortList s.left_members
  pub places : length s.events < 2 ^ 16
  pub each_place : AllByRecursion IsShortPlace s.events

-- ---- what is short enough, with numbers of 64 bits

abbrev pub IsTimed : StatusValue → Type 0
IsTimed s = (length s.0 < 2 ^ 16) × (s.1 < 2 ^ 64)

abbrev pub IsPlaceTimed : Option GroupValue → Type 0
IsPlaceTimed None = ⊤
IsPlaceTimed (Some g) = IsShortGroup g × (g.time < 2 ^ 64)

pub record IsStateInRange (s : StateValue) : Type 0 where
  pub time : s.time < 2 ^ 64
  pub event_time : s.event_time < 2 ^ 64
  pub query_time : s.query_time < 2 ^ 64
  pub statuses : length s.status_times < 2 ^ 16
  pub each_status : AllByRecursion IsTimed s.status_times
  pub left_members : IsShortList s.left_members
  pub places : length s.events < 2 ^ 16
  pub each_place : AllByRecursion IsPlaceTimed s.events
