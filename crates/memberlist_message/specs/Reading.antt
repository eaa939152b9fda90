-- The readings of values as memberlist's decoder reads them (go-msgpack's decode.go and msgpack.go):
-- what is read from the start of the bytes and what is left, or the fault.
use Rattle.std.specs.Prelude.{◌≡◌, ◌⊎◌, ℕ, zero, suc, ◌+◌, ◌-◌, ◌*◌, Bool, true, false, List, [], ◌∷◌, ◌++◌, length}
use Rattle.std.specs.Prelude.{take, drop, Option, Some, None, Result, Ok, Err, nat_lt, ◌==◌, if◌then◌else◌, position}
use Rattle.std.specs.Prelude.{slice_set}
use Rattle.std.specs.Str.{bytes_eq}
use Rattle.byteorder.specs.Endian.{big_number}
use Rattle.swim_pack.specs.Composing.{◌>>=◌, gives, refuses, some_or, lift}
use Rattle.swim_pack.specs.Reading.{uint_at}
use Rattle.swim_wire.specs.declared.fault.WireFault.{WireFault}
use Rattle.swim_wire.specs.declared.fault.WireFault.TheVariants.{Ended, NotBool, NotRaw, NotMap, UnknownKey, Memory}
use Rattle.swim_wire.specs.Fault.{fault_of_pack}
use Rattle.swim_wire.specs.Reading.{Reading}
use Rattle.memberlist_message.specs.declared.form.Count.{Count}
use Rattle.memberlist_message.specs.declared.form.Count.TheVariants.{Fixed, One, Two, Four}
use Rattle.memberlist_message.specs.declared.form.Form.{Form}
use Rattle.memberlist_message.specs.declared.form.Form.TheVariants as forms
use Rattle.memberlist_message.specs.declared.layout.Field.{Field}
use Rattle.memberlist_message.specs.declared.layout.Kind.{Kind}
use Rattle.memberlist_message.specs.declared.layout.Kind.TheVariants as kinds
use Rattle.memberlist_message.specs.Forms.{form_of}
use Rattle.memberlist_message.specs.Keys.{key_text}
use Rattle.memberlist_message.specs.Slots.{Slot, Slots, slot, no_slots, raw_or_empty}
use Rattle.memberlist_message.specs.Slots.Slot.{long, short, raw, flag}

-- the fault is that of the reading, or memory ran out
abbrev pub IsFault : {A : Type 0} → Result A WireFault → WireFault → Type 0
IsFault wanted fault = (wanted ≡ Err fault) ⊎ (fault ≡ Memory)

-- ---- heads

-- the next byte
abbrev pub byte_at : Reading ℕ
byte_at [] = Err Ended
byte_at (first ∷ rest) = Ok (first, rest)

-- the next n bytes
unfoldable pub bytes_at : ℕ → Reading (List ℕ)
bytes_at n bytes = if nat_lt (length bytes) n then Err Ended else Ok (take n bytes, drop n bytes)

-- a length or a count, the high byte first
unfoldable pub count_at : Count → Reading ℕ
count_at (Fixed n) = gives n
count_at One = byte_at
count_at Two = do
  digits ← bytes_at 2
  gives (big_number 2 digits)
count_at Four = do
  digits ← bytes_at 4
  gives (big_number 4 digits)

-- a number of at most max; nil is 0
unfoldable pub number_at : ℕ → Reading ℕ
number_at max = lift fault_of_pack (uint_at max)

-- the truth value of a first byte
unfoldable pub flag_of : ℕ → Option Bool
flag_of first =
    if first == 0x00 then Some false else
    if first == 0x01 then Some true else
    if first == 0xc0 then Some false else
    if first == 0xc2 then Some false else
    if first == 0xc3 then Some true else None

-- a truth value
unfoldable pub flag_at : Reading Bool
flag_at = do
  first ← byte_at
  some_or NotBool (flag_of first)

-- the length of a text; nil has none
abbrev pub text_len : Option Form → Option Count
text_len None = None
text_len (Some forms.Nil) = Some (Fixed 0)
text_len (Some (forms.Text count)) = Some count
text_len (Some form) = None

-- the length of a text by its first byte; e0 to ff announce 64 to 95 bytes, since go-msgpack tests
-- two bits of a0 and takes the others for the length
unfoldable pub text_count : ℕ → Option Count
text_count first =
    if nat_lt first 0xe0 then text_len (form_of first) else Some (Fixed (first - 0xa0))

-- a key, or a text
unfoldable pub text_at : Reading (List ℕ)
text_at = do
  first ← byte_at
  count ← some_or NotRaw (text_count first)
  len ← count_at count
  bytes_at len

-- ---- values that are passed over

-- the own bytes of a value of this form, and how many values are in it
unfoldable pub inside : Option Form → Reading ℕ
inside None = refuses UnknownKey
inside (Some forms.Nil) = gives 0
inside (Some (forms.Plain size)) = do
  own ← bytes_at size
  gives 0
inside (Some (forms.Text count)) = do
  len ← count_at count
  own ← bytes_at len
  gives 0
inside (Some (forms.Bytes count)) = do
  len ← count_at count
  own ← bytes_at len
  gives 0
inside (Some (forms.Extension count)) = do
  len ← count_at count
  own ← bytes_at (len + 1)
  gives 0
inside (Some (forms.List count)) = count_at count
inside (Some (forms.Map count)) = do
  pairs ← count_at count
  gives (2 * pairs)

-- a value but for those that are in it, of which this is the number
unfoldable pub outside_at : Reading ℕ
outside_at = do
  first ← byte_at
  inside (form_of first)

-- This many values, and those that are in them, in at most so many steps. More values than bytes
-- are refused at once.
unfoldable pub values_within : ℕ → ℕ → Reading (Unit {0})
values_within steps zero bytes = Ok (tt, bytes)
values_within zero (suc n) bytes = Err Ended
values_within (suc steps) (suc n) bytes =
    if nat_lt (length bytes) (suc n) then Err Ended
    else (outside_at >>= (λ more. values_within steps (n + more))) bytes

-- this many values; each has a byte, so the steps suffice
unfoldable pub values_at : ℕ → Reading (Unit {0})
values_at n bytes = values_within (length bytes) n bytes

-- ---- fields of bytes

-- this many numbers of at most 255
unfoldable pub numbers_at : ℕ → Reading (List ℕ)
numbers_at zero = gives []
numbers_at (suc n) = do
  first ← number_at 255
  others ← numbers_at n
  gives (first ∷ others)

-- the numbers, and what they leave of the earlier bytes
abbrev pub over : List ℕ → List ℕ → List ℕ
over old numbers = numbers ++ drop (length numbers) old

-- this many numbers over the earlier bytes
unfoldable pub numbers_over : List ℕ → ℕ → Reading (List ℕ)
numbers_over old n = do
  numbers ← numbers_at n
  gives (over old numbers)

-- text or bytes; if they are empty, the earlier bytes stay
unfoldable pub raw_over : List ℕ → Count → Reading (List ℕ)
raw_over old count = do
  len ← count_at count
  if len == 0 then gives old else bytes_at len

-- bytes of this form, over those that the field had
unfoldable pub bytes_of : List ℕ → Option Form → Reading (List ℕ)
bytes_of old None = refuses NotRaw
bytes_of old (Some forms.Nil) = gives []
bytes_of old (Some (forms.Plain size)) = refuses NotRaw
bytes_of old (Some (forms.Text count)) = raw_over old count
bytes_of old (Some (forms.Bytes count)) = raw_over old count
bytes_of old (Some (forms.List count)) = do
  n ← count_at count
  numbers_over old n
bytes_of old (Some (forms.Map count)) = do
  pairs ← count_at count
  numbers_over old (2 * pairs)
bytes_of old (Some (forms.Extension count)) = refuses NotRaw

-- bytes, over those that the field had
unfoldable pub field_bytes_at : List ℕ → Reading (List ℕ)
field_bytes_at old = do
  first ← byte_at
  bytes_of old (form_of first)

-- ---- fields

-- the fields of a message, in memberlist's order
abbrev pub Fields : Type 0
Fields = List Field

-- a value of this kind, over the earlier one of its field
unfoldable pub value_at : Kind → Option Slot → Reading Slot
value_at kinds.Uint32 old = do
  v ← number_at 0xffff_ffff
  gives (long v)
value_at kinds.Uint16 old = do
  v ← number_at 0xffff
  gives (short v)
value_at kinds.Text old = do
  s ← text_at
  gives (raw s)
value_at kinds.Bytes old = do
  s ← field_bytes_at (raw_or_empty old)
  gives (raw s)
value_at kinds.Flag old = do
  f ← flag_at
  gives (flag f)

-- the index of the field with this name
abbrev pub place_of : Fields → List ℕ → Option ℕ
place_of layout key = position (λ field. bytes_eq (key_text field.key) key) layout

-- the kind of the field at an index
abbrev pub kind_at : Fields → ℕ → Kind
kind_at [] place = kinds.Flag
kind_at (field ∷ layout) zero = field.kind
kind_at (field ∷ layout) (suc place) = kind_at layout place

-- the value at an index of the layout, into its slot
unfoldable pub slot_at : Kind → Slots → ℕ → Reading Slots
slot_at kind slots place = do
  value ← value_at kind (slot slots place)
  gives (slice_set slots place (Some value))

-- the value of a key: of the field with this name, or passed over
unfoldable pub behind_key : Fields → Slots → Option ℕ → Reading Slots
behind_key layout slots None = do
  passed ← values_at 1
  gives slots
behind_key layout slots (Some place) = slot_at (kind_at layout place) slots place

-- a key and its value
unfoldable pub pair_at : Fields → Slots → Reading Slots
pair_at layout slots = do
  key ← text_at
  behind_key layout slots (place_of layout key)

-- this many keys and their values
unfoldable pub pairs_at : Fields → ℕ → Slots → Reading Slots
pairs_at layout zero slots = gives slots
pairs_at layout (suc n) slots = do
  next ← pair_at layout slots
  pairs_at layout n next

-- this many elements of an array: of the fields from this index on, and then values that are passed
-- over
unfoldable pub elements_at : Fields → ℕ → ℕ → Slots → Reading Slots
elements_at layout place zero slots = gives slots
elements_at [] place (suc n) slots = do
  passed ← values_at (suc n)
  gives slots
elements_at (field ∷ layout) place (suc n) slots = do
  next ← slot_at field.kind slots place
  elements_at layout (suc place) n next

-- the fields in an array, from its count on
unfoldable pub in_list : Fields → Count → Reading Slots
in_list layout count = do
  n ← count_at count
  elements_at layout 0 n no_slots

-- the fields in a map, from its count on
unfoldable pub in_map : Fields → Count → Reading Slots
in_map layout count = do
  n ← count_at count
  pairs_at layout n no_slots

-- the fields in a value of this form: a map, an array, or nil, which leaves all zero
unfoldable pub fields_of : Fields → Option Form → Reading Slots
fields_of layout None = refuses NotMap
fields_of layout (Some forms.Nil) = gives no_slots
fields_of layout (Some (forms.Plain size)) = refuses NotMap
fields_of layout (Some (forms.Text count)) = refuses NotMap
fields_of layout (Some (forms.Bytes count)) = refuses NotMap
fields_of layout (Some (forms.List count)) = in_list layout count
fields_of layout (Some (forms.Map count)) = in_map layout count
fields_of layout (Some (forms.Extension count)) = refuses NotMap

-- the fields of a message
unfoldable pub fields_at : Fields → Reading Slots
fields_at layout = do
  first ← byte_at
  fields_of layout (form_of first)

-- what was read, whatever follows it
abbrev pub without_rest : {A : Type 0} → Result (A × List ℕ) WireFault → Result A WireFault
without_rest (Ok read) = Ok read.0
without_rest (Err fault) = Err fault
