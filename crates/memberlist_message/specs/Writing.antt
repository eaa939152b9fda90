-- The bytes of messages that make no claims, as memberlist writes them: the type byte, and a map of
-- the fields in alphabetical order.
use Rattle.std.specs.Prelude.{ℕ, ◌<◌, ◌^◌, ◌==◌, ◌&&◌, not, Bool, true, false, List, [], ◌∷◌, ◌++◌, length, map, count_by, if◌then◌else◌}
use Rattle.std.specs.List.{flat_map}
use Rattle.swim_pack.specs.Spelling.{raw_text, count_text}
use Rattle.swim_wire.specs.Layout.{Spelled}
use Rattle.swim_wire.specs.Layout.Spelled.{number, raw, flag}
use Rattle.swim_wire.specs.Pairs.{value_text}
use Rattle.memberlist_message.specs.declared.layout.Key.{Key}
use Rattle.memberlist_message.specs.declared.layout.Key.TheVariants as keys
use Rattle.memberlist_message.specs.declared.pairs.Written.{Written}
use Rattle.memberlist_message.specs.declared.pairs.Written.TheVariants as written
use Rattle.memberlist_message.specs.Keys.{key_text}
use Rattle.memberlist_message.specs.Messages.{PingValue, IndirectPingValue, AckValue}

-- a field and its value
abbrev pub Entry : Type 0
Entry = Key × Spelled

-- a field that is left out if it is zero: `omitempty` in net.go
abbrev pub is_optional : Key → Bool
is_optional keys.SourceAddr = true
is_optional keys.SourceNode = true
is_optional keys.SourcePort = true
is_optional key = false

-- the value is zero
abbrev pub is_zero : Spelled → Bool
is_zero (number v) = v == 0
is_zero (raw s) = length s == 0
is_zero (flag f) = not f

-- the field is written
abbrev pub is_written : Entry → Bool
is_written entry = not (is_optional entry.0 && is_zero entry.1)

-- the bytes of a field: its name and its value, or none if it is left out
abbrev pub entry_text : Entry → List ℕ
entry_text entry = if is_written entry then raw_text (key_text entry.0) ++ value_text entry.1 else []

-- a map of the fields that are written
abbrev pub entries_text : List Entry → List ℕ
entries_text entries = count_text (count_by is_written entries) ++ flat_map entry_text entries

abbrev pub ping_entries : PingValue → List Entry
ping_entries p =
    (keys.Node, raw p.node) ∷ (keys.SeqNo, number p.seq_no) ∷ (keys.SourceAddr, raw p.source_addr)
    ∷ (keys.SourceNode, raw p.source_node) ∷ (keys.SourcePort, number p.source_port) ∷ []

abbrev pub indirect_ping_entries : IndirectPingValue → List Entry
indirect_ping_entries p =
    (keys.Nack, flag p.nack) ∷ (keys.Node, raw p.node) ∷ (keys.Port, number p.port)
    ∷ (keys.SeqNo, number p.seq_no) ∷ (keys.SourceAddr, raw p.source_addr)
    ∷ (keys.SourceNode, raw p.source_node) ∷ (keys.SourcePort, number p.source_port)
    ∷ (keys.Target, raw p.target) ∷ []

abbrev pub ack_entries : AckValue → List Entry
ack_entries a = (keys.Payload, raw a.payload) ∷ (keys.SeqNo, number a.seq_no) ∷ []

abbrev pub ping_bytes : PingValue → List ℕ
ping_bytes p = 0 ∷ entries_text (ping_entries p)

abbrev pub indirect_ping_bytes : IndirectPingValue → List ℕ
indirect_ping_bytes p = 1 ∷ entries_text (indirect_ping_entries p)

abbrev pub ack_bytes : AckValue → List ℕ
ack_bytes a = 2 ∷ entries_text (ack_entries a)

abbrev pub nack_bytes : ℕ → List ℕ
nack_bytes seq_no = 11 ∷ entries_text ((keys.SeqNo, number seq_no) ∷ [])

abbrev pub user_bytes : List ℕ → List ℕ
user_bytes bytes = 8 ∷ bytes

abbrev pub error_bytes : List ℕ → List ℕ
error_bytes error = 13 ∷ entries_text ((keys.Error, raw error) ∷ [])

-- ---- what the code writes

-- a value
abbrev pub spelled : Written → Spelled
spelled (written.Number v) = number v
spelled (written.Raw bytes) = raw bytes.now
spelled (written.Flag f) = flag f

-- a field and its value
abbrev pub entry_of : Key × Written → Entry
entry_of pair = (pair.0, spelled pair.1)

-- the fields and their values
abbrev pub entries_of : List (Key × Written) → List Entry
entries_of pairs = map entry_of pairs

-- the bytes are short enough for a length in two bytes
abbrev pub IsShort : Written → Type 0
IsShort (written.Number v) = Unit {0}
IsShort (written.Raw bytes) = length bytes.now < 2 ^ 16
IsShort (written.Flag f) = Unit {0}
