-- The readings of messages, one field at a time.
use Rattle.std.specs.Prelude.{◌≡◌, ◌⊎◌, ℕ, zero, suc, nat_lt, ◌==◌, ◌||◌, Bool, true, false, List, [], ◌∷◌, length}
use Rattle.std.specs.Prelude.{Option, Some, None, Result, Ok, Err, if◌then◌else◌, position, slice_index_or, slice_set}
use Rattle.std.specs.Result.{result_ok}
use Rattle.std.specs.Str.{bytes_eq}
use Rattle.swim_claim.specs.declared.claim.Claim.{Claim}
use Rattle.swim_claim.specs.declared.claim.Claim.TheVariants.{Alive, Suspect, Confirm, Leave}
use Rattle.swim_claim.specs.Details.{DetailsValue}
use Rattle.swim_pack.specs.Composing.{Cause, ◌>>=◌, gives, refuses, some_or, lift}
use Rattle.swim_pack.specs.Composing.Cause.{by_end, by_bytes, by_inlet, by_memory}
use Rattle.swim_pack.specs.Composing as composing
use Rattle.swim_pack.specs.Reading.{next_byte, uint_at, flag_at, raw_at, count_at}
use Rattle.swim_wire.specs.declared.fault.WireFault.{WireFault}
use Rattle.swim_wire.specs.declared.fault.WireFault.TheVariants.{Ended, Fault, Memory, NameEmpty, BadAddress}
use Rattle.swim_wire.specs.declared.fault.WireFault.TheVariants.{BadVersions, WrongType, UnknownKey, DuplicateKey}
use Rattle.swim_wire.specs.declared.fault.WireFault.TheVariants.{BadState, TooManyNodes, UserTooLong, Trailing}
use Rattle.swim_wire.specs.declared.layout.Limit.{Limit}
use Rattle.swim_wire.specs.declared.layout.Limit.TheVariants as limits
use Rattle.swim_wire.specs.declared.state_record.StateRecord.{StateRecord}
use Rattle.swim_wire.specs.declared.stream.Header.{Header}
use Rattle.swim_wire.specs.Fault.{fault_of_pack, fault_of_key}
use Rattle.swim_wire.specs.Layout.{Layout, Spelled, number_or_zero, raw_or_empty, flag_or_false, alive_layout}
use Rattle.swim_wire.specs.Layout.{accusation_layout, header_layout, state_layout}
use Rattle.swim_wire.specs.Limits.{max_nodes, max_user_state_len}
use Rattle.swim_wire.specs.Places.{alive_addr, alive_incarnation, alive_meta, alive_node, alive_port, alive_vsn}
use Rattle.swim_wire.specs.Places.{accusation_from, accusation_incarnation, accusation_node, header_join, header_nodes}
use Rattle.swim_wire.specs.Places.{header_user_state_len, state_addr, state_incarnation, state_meta, state_name}
use Rattle.swim_wire.specs.Places.{state_port, state_state, state_vsn}
use Rattle.swim_wire.specs.Layout.Spelled.{number, raw, flag}
use Rattle.swim_wire.specs.Packet.{PacketValue}

-- a value and the bytes after it, or the fault
abbrev pub Reading : Type 0 → Type 0
Reading V = composing.Reading WireFault V

-- what causes a refusal
abbrev pub wire_cause : WireFault → Cause
wire_cause Ended = by_end
wire_cause Fault = by_inlet
wire_cause Memory = by_memory
wire_cause error = by_bytes

-- the values of a map, each at the index of its key in the layout
abbrev pub Slots : Type 0
Slots = List (Option Spelled)

-- the value at an index, if one was read
abbrev pub slot : Slots → ℕ → Option Spelled
slot slots place = slice_index_or slots place None

-- the value after a key
unfoldable pub value_at : Limit → Reading Spelled
value_at (limits.Number max) = do
  v ← lift fault_of_pack (uint_at max)
  gives (number v)
value_at (limits.Raw limit) = do
  s ← lift fault_of_pack (raw_at limit)
  gives (raw s)
value_at limits.Flag = do
  f ← lift fault_of_pack flag_at
  gives (flag f)

-- the index of a key in the layout
abbrev pub place_of : Layout → List ℕ → Option ℕ
place_of layout key = position (λ field. bytes_eq field.0 key) layout

-- the limit of the value at an index of the layout
abbrev pub limit_at : Layout → ℕ → Limit
limit_at layout place = let field = slice_index_or layout place ([], limits.Flag) in field.1

-- continues if no value was read at the index
abbrev pub if_vacant : {A : Type 0} → Option Spelled → Reading A → Reading A
if_vacant None reading = reading
if_vacant (Some value) reading = refuses DuplicateKey

-- a key, as its index in the layout
unfoldable pub key_at : Layout → Reading ℕ
key_at layout = do
  key ← lift fault_of_key (raw_at 12)
  some_or UnknownKey (place_of layout key)

-- a key, and its value at its index
unfoldable pub pair_at : Layout → Slots → Reading Slots
pair_at layout slots = do
  place ← key_at layout
  value ← if_vacant (slot slots place) (value_at (limit_at layout place))
  gives (slice_set slots place (Some value))

-- this many pairs
unfoldable pub pairs_at : Layout → ℕ → Slots → Reading Slots
pairs_at layout zero slots = gives slots
pairs_at layout (suc n) slots = do
  next ← pair_at layout slots
  pairs_at layout n next

-- no values, for a layout of up to eight keys
abbrev pub no_slots : Slots
no_slots = None ∷ None ∷ None ∷ None ∷ None ∷ None ∷ None ∷ None ∷ []

-- a map of the layout
unfoldable pub map_at : Layout → Reading Slots
map_at layout = do
  n ← lift fault_of_pack (count_at (length layout))
  pairs_at layout n no_slots

-- the value that was checked, or the refusal
abbrev pub checked : {A : Type 0} → Result A WireFault → Reading A
checked (Ok x) = gives x
checked (Err fault) = refuses fault

-- the number at an index, or 0 if none was read
abbrev pub number_in : Slots → ℕ → ℕ
number_in slots place = number_or_zero (slot slots place)

-- the bytes at an index, or none if none were read
abbrev pub raw_in : Slots → ℕ → List ℕ
raw_in slots place = raw_or_empty (slot slots place)

-- the truth value at an index, or false if none was read
abbrev pub flag_in : Slots → ℕ → Bool
flag_in slots place = flag_or_false (slot slots place)

-- ---- the checks of the whole, in order

-- the result, if the name is not empty
abbrev pub with_name : {A : Type 0} → List ℕ → Result A WireFault → Result A WireFault
with_name [] result = Err NameEmpty
with_name (byte ∷ bytes) result = result

-- what is made of the details, if the address and then the versions are legal
abbrev pub with_details : {A : Type 0} → DetailsValue → (DetailsValue → A) → Result A WireFault
with_details details f =
    if (length details.addr == 4) || (length details.addr == 16)
    then (if (length details.vsn == 0) || (length details.vsn == 6)
    then Ok (f details) else Err BadVersions)
    else Err BadAddress

-- ---- packets

-- the packet in the values of an alive message
abbrev pub alive_of : Slots → Result PacketValue WireFault
alive_of slots =
    with_name (raw_in slots alive_node) (with_details (record {
      addr = raw_in slots alive_addr;
      port = number_in slots alive_port;
      meta = raw_in slots alive_meta;
      vsn = raw_in slots alive_vsn;
    })
    (λ details. record {
      claim = Alive (raw_in slots alive_node) (number_in slots alive_incarnation) details;
      from = [];
    }))

-- the packet in the values of a suspect message
abbrev pub suspect_of : Slots → Result PacketValue WireFault
suspect_of slots =
    with_name (raw_in slots accusation_node) (Ok (record {
      claim = Suspect (raw_in slots accusation_node) (number_in slots accusation_incarnation);
      from = raw_in slots accusation_from;
    }))

-- a member that is dead by its own claim has left
abbrev pub dead_claim : Bool → List ℕ → ℕ → Claim
dead_claim true name inc = Leave name inc
dead_claim false name inc = Confirm name inc

-- the packet in the values of a dead message
abbrev pub dead_of : Slots → Result PacketValue WireFault
dead_of slots =
    with_name (raw_in slots accusation_node) (Ok (record {
      claim = dead_claim (bytes_eq (raw_in slots accusation_from) (raw_in slots accusation_node))
          (raw_in slots accusation_node) (number_in slots accusation_incarnation);
      from = raw_in slots accusation_from;
    }))

-- an alive message, after its type byte
unfoldable pub alive_at : Reading PacketValue
alive_at = do
  slots ← map_at alive_layout
  checked (alive_of slots)

-- a suspect message, after its type byte
unfoldable pub suspect_at : Reading PacketValue
suspect_at = do
  slots ← map_at accusation_layout
  checked (suspect_of slots)

-- a dead message, after its type byte
unfoldable pub dead_at : Reading PacketValue
dead_at = do
  slots ← map_at accusation_layout
  checked (dead_of slots)

-- what follows a type byte
abbrev pub packet_after : ℕ → Reading PacketValue
packet_after first =
    if first == 4 then alive_at else
    if first == 3 then suspect_at else
    if first == 5 then dead_at else refuses (WrongType first)

-- a packet, with its type byte
unfoldable pub packet_at : Reading PacketValue
packet_at = do
  first ← lift fault_of_pack next_byte
  packet_after first

-- a message with nothing after it
abbrev pub nothing_after : {A : Type 0} → Result (A × List ℕ) WireFault → Result A WireFault
nothing_after (Ok (x, [])) = Ok x
nothing_after (Ok (x, byte ∷ bytes)) = Err Trailing
nothing_after (Err fault) = Err fault

-- the result is this one, unless memory ran out
abbrev pub AnswersUnlessMemory : {A : Type 0} → Result A WireFault → Result A WireFault → Type 0
AnswersUnlessMemory wanted result = (result ≡ wanted) ⊎ (result ≡ Err Memory)

-- a packet with nothing after it
abbrev pub whole_packet : List ℕ → Result PacketValue WireFault
whole_packet bytes = nothing_after (packet_at bytes)

-- ---- streams

-- the header in the values; its count of members is checked first
abbrev pub header_of : Slots → Result Header WireFault
header_of slots =
    if nat_lt max_nodes (number_in slots header_nodes) then Err TooManyNodes else
    if nat_lt max_user_state_len (number_in slots header_user_state_len) then Err UserTooLong else
    Ok (record {
      nodes = number_in slots header_nodes;
      user_len = number_in slots header_user_state_len;
      join = flag_in slots header_join;
    })

-- the header of a stream, with its type byte
unfoldable pub header_at : Reading Header
header_at = do
  first ← lift fault_of_pack next_byte
  slots ← if first == 6 then map_at header_layout else refuses (WrongType first)
  checked (header_of slots)

-- the claim of a state record by its state
abbrev pub claim_of_state : Slots → ℕ → Result Claim WireFault
claim_of_state slots state =
    if state == 0 then with_details (record {
      addr = raw_in slots state_addr;
      port = number_in slots state_port;
      meta = raw_in slots state_meta;
      vsn = raw_in slots state_vsn;
    })
    (λ details. Alive (raw_in slots state_name) (number_in slots state_incarnation) details) else
    if state == 1
    then Ok (Suspect (raw_in slots state_name) (number_in slots state_incarnation)) else
    if state == 2
    then Ok (Confirm (raw_in slots state_name) (number_in slots state_incarnation)) else
    if state == 3
    then Ok (Leave (raw_in slots state_name) (number_in slots state_incarnation))
    else Err (BadState state)

-- the claim in the values of a state record; its name is checked first
abbrev pub state_of : Slots → Result Claim WireFault
state_of slots =
    with_name (raw_in slots state_name) (claim_of_state slots (number_in slots state_state))

-- a state record
unfoldable pub state_at : Reading Claim
state_at = do
  slots ← map_at state_layout
  checked (state_of slots)

-- ---- records with all that they say

-- the details in the values of a state record
abbrev pub details_in : Slots → Result DetailsValue WireFault
details_in slots = with_details (record {
  addr = raw_in slots state_addr;
  port = number_in slots state_port;
  meta = raw_in slots state_meta;
  vsn = raw_in slots state_vsn;
}) (λ details. details)

-- the details that a state record tells beside its claim: an Alive has them itself
abbrev pub told_of : Slots → Option DetailsValue
told_of slots =
    if number_in slots state_state == 0 then None else result_ok (details_in slots)

-- the claim, with what is told beside it
abbrev pub with_told : Option DetailsValue → Result Claim WireFault → Result StateRecord WireFault
with_told told (Ok claim) = Ok (record { claim = claim; told = told })
with_told told (Err fault) = Err fault

-- all that the values of a state record say; what refuses its claim refuses it
abbrev pub record_of : Slots → Result StateRecord WireFault
record_of slots = with_told (told_of slots) (state_of slots)

-- a state record, with all that it says
unfoldable pub record_at : Reading StateRecord
record_at = do
  slots ← map_at state_layout
  checked (record_of slots)
