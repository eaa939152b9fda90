-- The bytes of messages as Serf writes them: the type byte, and a map of the fields in alphabetical
-- order.
use Rattle.std.specs.Prelude.{ℕ, ℤ, pos, negsuc, ◌+◌, ◌-◌, ◌<◌, ◌^◌, ◌==◌, nat_lt, FitsSigned, Bool, List, [], ◌∷◌}
use Rattle.std.specs.Prelude.{◌++◌, length, map, if◌then◌else◌}
use Rattle.std.specs.List.{AllByRecursion, flat_map}
use Rattle.std.specs.Int.{w64}
use Rattle.byteorder.specs.Endian.{big_bytes}
use Rattle.swim_pack.specs.Spelling.{number_text, raw_text, flag_text, count_text}
use Rattle.serf_message.specs.declared.layout.Key.{Key}
use Rattle.serf_message.specs.declared.layout.Key.TheVariants as keys
use Rattle.serf_message.specs.declared.pairs.Written.{Written}
use Rattle.serf_message.specs.declared.pairs.Written.TheVariants as written
use Rattle.serf_message.specs.Keys.{key_text}
use Rattle.serf_message.specs.Messages.{LeaveValue, JoinValue, EventValue, QueryValue, ResponseValue, RelayValue, MessageValue}

-- the number of pairs of a map, at most 65,535
abbrev pub map_len_text : ℕ → List ℕ
map_len_text n = if nat_lt n 16 then (0x80 + n) ∷ [] else 0xde ∷ big_bytes 2 n

-- a value: a number, one with a sign, the bits of one with a floating point, text, bytes, a truth value, or one whose bytes these are
pub data Spelled : Type 0 where
  number : ℕ → Spelled
  signed : ℤ → Spelled
  float : ℕ → Spelled
  text : List ℕ → Spelled
  bytes : List ℕ → Spelled
  flag : Bool → Spelled
  whole : List ℕ → Spelled

-- -1 - v in the fewest bytes
unfoldable pub negative_text : ℕ → List ℕ
negative_text v =
    if nat_lt v 0x20 then (0xff - v) ∷ [] else
    if nat_lt v 0x80 then 0xd0 ∷ (0xff - v) ∷ [] else
    if nat_lt v 0x8000 then 0xd1 ∷ big_bytes 2 (0xffff - v) else
    if nat_lt v 0x8000_0000 then 0xd2 ∷ big_bytes 4 (0xffff_ffff - v) else
    0xd3 ∷ big_bytes 8 (0xffff_ffff_ffff_ffff - v)

-- a number with a sign in the fewest bytes
abbrev pub signed_text : ℤ → List ℕ
signed_text (pos v) = number_text v
signed_text (negsuc v) = negative_text v

-- the number of values of a list, at most 65,535
abbrev pub list_len_text : ℕ → List ℕ
list_len_text n = if nat_lt n 16 then (0x90 + n) ∷ [] else 0xdc ∷ big_bytes 2 n

-- bytes, or nil for none
abbrev pub bytes_text : List ℕ → List ℕ
bytes_text s = if length s == 0 then 0xc0 ∷ [] else raw_text s

-- a number of 64 bits with a floating point, of these bits
abbrev pub float_text : ℕ → List ℕ
float_text bits = 0xcb ∷ big_bytes 8 bits

-- the bytes of a value
abbrev pub value_text : Spelled → List ℕ
value_text (Spelled.number v) = number_text v
value_text (Spelled.signed v) = signed_text v
value_text (Spelled.float bits) = float_text bits
value_text (Spelled.text s) = raw_text s
value_text (Spelled.bytes s) = bytes_text s
value_text (Spelled.flag f) = flag_text f
value_text (Spelled.whole s) = s

-- a list of values of bytes, or nil for none
abbrev pub list_text : List (List ℕ) → List ℕ
list_text xs = if length xs == 0 then 0xc0 ∷ [] else list_len_text (length xs) ++ flat_map bytes_text xs

-- a field and its value
abbrev pub Entry : Type 0
Entry = Key × Spelled

-- the bytes of a field: its name and its value
abbrev pub entry_text : Entry → List ℕ
entry_text entry = raw_text (key_text entry.0) ++ value_text entry.1

-- a map of fields
abbrev pub entries_text : List Entry → List ℕ
entries_text entries = count_text (length entries) ++ flat_map entry_text entries

abbrev pub leave_entries : LeaveValue → List Entry
leave_entries m =
    (keys.Time, Spelled.number m.time) ∷ (keys.Node, Spelled.text m.node)
    ∷ (keys.Prune, Spelled.flag m.prune) ∷ []

abbrev pub join_entries : JoinValue → List Entry
join_entries m = (keys.Time, Spelled.number m.time) ∷ (keys.Node, Spelled.text m.node) ∷ []

abbrev pub event_entries : EventValue → List Entry
event_entries m =
    (keys.Coalesce, Spelled.flag m.coalesce) ∷ (keys.Time, Spelled.number m.time)
    ∷ (keys.Name, Spelled.text m.name) ∷ (keys.Payload, Spelled.bytes m.payload) ∷ []

abbrev pub query_entries : QueryValue → List Entry
query_entries m =
    (keys.Addr, Spelled.bytes m.addr) ∷ (keys.Filters, Spelled.whole (list_text m.filters))
    ∷ (keys.Flags, Spelled.number m.flags) ∷ (keys.Id, Spelled.number m.id)
    ∷ (keys.Time, Spelled.number m.time) ∷ (keys.Name, Spelled.text m.name)
    ∷ (keys.Payload, Spelled.bytes m.payload) ∷ (keys.Port, Spelled.number m.port)
    ∷ (keys.RelayFactor, Spelled.number m.relay_factor)
    ∷ (keys.SourceNode, Spelled.text m.source_node) ∷ (keys.Timeout, Spelled.signed m.timeout) ∷ []

abbrev pub response_entries : ResponseValue → List Entry
response_entries m =
    (keys.Flags, Spelled.number m.flags) ∷ (keys.From, Spelled.text m.from)
    ∷ (keys.Id, Spelled.number m.id) ∷ (keys.Time, Spelled.number m.time)
    ∷ (keys.Payload, Spelled.bytes m.payload) ∷ []

-- the address in a relay header
abbrev pub address_entries : RelayValue → List Entry
address_entries m =
    (keys.Ip, Spelled.bytes m.addr) ∷ (keys.Port, Spelled.number m.port)
    ∷ (keys.Zone, Spelled.text m.zone) ∷ []

abbrev pub relay_entries : RelayValue → List Entry
relay_entries m =
    (keys.DestAddr, Spelled.whole (entries_text (address_entries m)))
    ∷ (keys.DestName, Spelled.text m.name) ∷ []

-- the bytes of a message
abbrev pub message_bytes : MessageValue → List ℕ
message_bytes (MessageValue.leave m) = 0 ∷ entries_text (leave_entries m)
message_bytes (MessageValue.join m) = 1 ∷ entries_text (join_entries m)
message_bytes (MessageValue.event m) = 3 ∷ entries_text (event_entries m)
message_bytes (MessageValue.query m) = 4 ∷ entries_text (query_entries m)
message_bytes (MessageValue.response m) = 5 ∷ entries_text (response_entries m)
message_bytes (MessageValue.relay m) = 9 ∷ entries_text (relay_entries m) ++ m.message

-- few enough values for a length in two bytes, and each of them short enough
abbrev pub IsShortList : List (List ℕ) → Type 0
IsShortList xs = (length xs < 2 ^ 16) × AllByRecursion (λ x. length x < 2 ^ 16) xs

-- the texts and bytes of a query are short enough
pub record IsShortQuery (m : QueryValue) : Type 0 where
  pub addr : length m.addr < 2 ^ 16
  pub source_node : length m.source_node < 2 ^ 16
  pub filters : IsShortList m.filters
  pub name : length m.name < 2 ^ 16
  pub payload : length m.payload < 2 ^ 16

-- the texts and bytes of a relay header are short enough
pub record IsShortRelay (m : RelayValue) : Type 0 where
  pub addr : length m.addr < 2 ^ 16
  pub zone : length m.zone < 2 ^ 16
  pub name : length m.name < 2 ^ 16

-- the texts and bytes of a message are short enough for a length in two bytes
abbrev pub IsShort : MessageValue → Type 0
IsShort (MessageValue.leave m) = length m.node < 2 ^ 16
IsShort (MessageValue.join m) = length m.node < 2 ^ 16
IsShort (MessageValue.event m) = (length m.name < 2 ^ 16) × (length m.payload < 2 ^ 16)
IsShort (MessageValue.query m) = IsShortQuery m
IsShort (MessageValue.response m) = (length m.from < 2 ^ 16) × (length m.payload < 2 ^ 16)
IsShort (MessageValue.relay m) = IsShortRelay m

-- the numbers of a query are of their types
pub record IsQueryInRange (m : QueryValue) : Type 0 where
  pub time : m.time < 2 ^ 64
  pub id : m.id < 2 ^ 32
  pub port : m.port < 2 ^ 16
  pub flags : m.flags < 2 ^ 32
  pub relay_factor : m.relay_factor < 2 ^ 8
  pub timeout : FitsSigned w64 m.timeout

-- the numbers of a message are of their types
abbrev pub IsInRange : MessageValue → Type 0
IsInRange (MessageValue.leave m) = m.time < 2 ^ 64
IsInRange (MessageValue.join m) = m.time < 2 ^ 64
IsInRange (MessageValue.event m) = m.time < 2 ^ 64
IsInRange (MessageValue.query m) = IsQueryInRange m
IsInRange (MessageValue.response m) = (m.time < 2 ^ 64) × (m.id < 2 ^ 32) × (m.flags < 2 ^ 32)
IsInRange (MessageValue.relay m) = m.port < 2 ^ 16

-- ---- what the code writes

-- a value
abbrev pub spelled : Written → Spelled
spelled (written.Number v) = Spelled.number v
spelled (written.Signed v) = Spelled.signed v
spelled (written.Float bits) = Spelled.float bits
spelled (written.Text s) = Spelled.text s.now
spelled (written.Bytes s) = Spelled.bytes s.now
spelled (written.Flag f) = Spelled.flag f
spelled (written.Whole s) = Spelled.whole s.now

-- a field and its value
abbrev pub entry_of : Key × Written → Entry
entry_of pair = (pair.0, spelled pair.1)

-- the fields and their values
abbrev pub entries_of : List (Key × Written) → List Entry
entries_of pairs = map entry_of pairs

-- the bytes are short enough for a length in two bytes
abbrev pub FitsTwoBytes : Written → Type 0
FitsTwoBytes (written.Number v) = Unit {0}
FitsTwoBytes (written.Signed v) = Unit {0}
FitsTwoBytes (written.Float bits) = Unit {0}
FitsTwoBytes (written.Text s) = length s.now < 2 ^ 16
FitsTwoBytes (written.Bytes s) = length s.now < 2 ^ 16
FitsTwoBytes (written.Flag f) = Unit {0}
FitsTwoBytes (written.Whole s) = Unit {0}
