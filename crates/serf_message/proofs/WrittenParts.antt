-- Coordinates and the messages about keys that are written are read back.
use Rattle.std.proofs.Common.{◌≡◌, ℕ, ◌<◌, ◌^◌, eqb, List, [], ◌∷◌, ◌++◌, length, Option, Some, None, Ok, refl, sym, ap}
use Rattle.std.proofs.Common.{◌∙◌, append-nil, lit<, arith}
use Rattle.std.proofs.lemmas.Bool.{eqb-true}
use Rattle.std.proofs.lemmas.List.{nil_from_length}
use Rattle.std.specs.List.{AllByRecursion, flat_map}
use Rattle.byteorder.specs.Endian.{big_bytes, big_number}
use Rattle.byteorder.specs.Numbers.{big_number-reads_back, length-bytes_high_first}
use Rattle.swim_pack.specs.Spelling.{raw_text}
use Rattle.serf_message.specs.declared.layout.Key.TheVariants as keys
use Rattle.serf_message.specs.declared.layout.Kind.TheVariants as kinds
use Rattle.serf_message.specs.Coordinates.{CoordinateValue, coordinate_of, coordinate_after, coordinate_from}
use Rattle.serf_message.specs.Coordinates.{coordinate_bytes, coordinate_entries, floats_text}
use Rattle.serf_message.specs.Forms.{form_of, long_form_of}
use Rattle.serf_message.specs.KeyMessages.{KeyResponseValue, IsShortKeyResponse, key_request_of, key_request_after}
use Rattle.serf_message.specs.KeyMessages.{key_request_bytes, key_response_of, key_response_after, key_response_from}
use Rattle.serf_message.specs.KeyMessages.{key_response_bytes, key_response_entries, texts_text}
use Rattle.serf_message.specs.Layouts.{coordinate_layout, key_request_layout, key_response_layout}
use Rattle.serf_message.specs.Reading.{bytes_at, float_at, inside, outside_at, value_at, number_value_at, fields_at, text_at}
use Rattle.serf_message.specs.Many.{listed, list_len_at, list_len_of, many_at}
use Rattle.serf_message.specs.Slots.{Slot, Slots, no_slots}
use Rattle.serf_message.specs.Writing.{Spelled, Entry, IsShortList, entries_text, float_text, list_len_text}
use Rattle.serf_message.proofs.Again.{read, split, entry_step, bytes_again, string_again, array_again, truth_again, text_again}
use Rattle.serf_message.proofs.Skipped.{ArePassed, leaf_passed, list_passed, nil_passed, raw_passed, listed_again}
use Rattle.serf_message.proofs.Slotting.{no_pairs, filled}
use Rattle.serf_message.proofs.Written.{alone_again, whole_field_again}

-- ---- coordinates

-- the bits fit 64
abbrev pub AreBits : ℕ → Type 0
AreBits v = v < 2 ^ 64

digits_at : (v : ℕ) (rest : List ℕ) → bytes_at 8 (big_bytes 8 v ++ rest) ≡ read (big_bytes 8 v) rest
digits_at v rest = ap (λ k. bytes_at k (big_bytes 8 v ++ rest)) (sym (length-bytes_high_first 8 v)) ∙ bytes_again (big_bytes 8 v) rest

float_again : (v : ℕ) (rest : List ℕ) → AreBits v → float_at (float_text v ++ rest) ≡ read v rest
unfolding float_at
float_again v rest lt =
    let value : big_number 8 (big_bytes 8 v) ≡ v = ap (big_number 8) (sym (append-nil (big_bytes 8 v))) ∙ big_number-reads_back 8 v [] lt in
    rw (digits_at v rest, value) refl

float_field_again : (old : Option Slot) (v : ℕ) (rest : List ℕ) → AreBits v
    → value_at kinds.Float old (float_text v ++ rest) ≡ read (Slot.huge v) rest
unfolding value_at number_value_at
float_field_again old v rest lt = rw (float_again v rest lt) refl

float_outside : (v : ℕ) (rest : List ℕ) → outside_at (float_text v ++ rest) ≡ Ok (0, rest)
unfolding outside_at inside form_of long_form_of
float_outside v rest = rw (digits_at v rest) refl

float_passed : (v : ℕ) → AreBits v → ArePassed 1 (float_text v)
float_passed v lt = leaf_passed (float_text v) (omega arith) (float_outside v)

abbrev coordinate_slots : CoordinateValue → Slots
coordinate_slots c =
    Some (Slot.raw (floats_text c.vec)) ∷ Some (Slot.huge c.error) ∷ Some (Slot.huge c.adjustment) ∷ Some (Slot.huge c.height)
    ∷ None ∷ None ∷ None ∷ None ∷ None ∷ None ∷ None ∷ []

coordinate_fields_again : (c : CoordinateValue) → length c.vec < 2 ^ 16 → AllByRecursion AreBits c.vec
    → AreBits c.error → AreBits c.adjustment → AreBits c.height
    → fields_at coordinate_layout (entries_text (coordinate_entries c)) ≡ filled (coordinate_slots c) []
coordinate_fields_again c few all error adjustment height =
    let e4 : Entry = (keys.Vec, Spelled.whole (floats_text c.vec)) in
    let e3 : Entry = (keys.Height, Spelled.float c.height) in
    let e2 : Entry = (keys.Error, Spelled.float c.error) in
    let e1 : Entry = (keys.Adjustment, Spelled.float c.adjustment) in
    let s1 = entry_step coordinate_layout e1 (e2 ∷ e3 ∷ e4 ∷ []) no_slots 2 (Slot.huge c.adjustment) []
    (lit< tt) refl (lit< tt) (λ more. float_field_again _ c.adjustment more adjustment) in
    let s2 = entry_step coordinate_layout e2 (e3 ∷ e4 ∷ []) _ 1 (Slot.huge c.error) [] (lit< tt) refl
    (lit< tt) (λ more. float_field_again _ c.error more error) in
    let s3 = entry_step coordinate_layout e3 (e4 ∷ []) _ 3 (Slot.huge c.height) [] (lit< tt) refl (lit< tt)
    (λ more. float_field_again _ c.height more height) in
    let s4 = entry_step coordinate_layout e4 [] _ 0 (Slot.raw (floats_text c.vec)) [] (lit< tt) refl (lit< tt)
    (λ more. whole_field_again _ (floats_text c.vec) more (list_passed float_text AreBits float_passed c.vec all few)) in
    alone_again coordinate_layout (coordinate_entries c) (coordinate_slots c) (lit< tt)
    (s1 ∙ s2 ∙ s3 ∙ s4 ∙ no_pairs coordinate_layout 0 _ _ refl)

pub coordinate_again : (c : CoordinateValue) → length c.vec < 2 ^ 16 → AllByRecursion AreBits c.vec
    → AreBits c.error → AreBits c.adjustment → AreBits c.height
    → coordinate_of (coordinate_bytes c) ≡ Ok c
unfolding coordinate_after coordinate_from
coordinate_again c few all error adjustment height =
    rw (coordinate_fields_again c few all error adjustment height, listed_again float_at float_text AreBits float_again c.vec all few) refl

-- ---- keys

pub key_request_again : (key : List ℕ) → length key < 2 ^ 16 → key_request_of (key_request_bytes key) ≡ Ok key
unfolding key_request_after
key_request_again key lt =
    let e1 : Entry = (keys.Key, Spelled.bytes key) in
    let s1 = entry_step key_request_layout e1 [] no_slots 0 (Slot.raw key) [] (lit< tt) refl (lit< tt)
    (λ more. array_again _ key more lt) in
    let fields = alone_again key_request_layout (e1 ∷ []) _ (lit< tt) (s1 ∙ no_pairs key_request_layout 0 _ _ refl) in
    rw fields refl

abbrev IsShortText : List ℕ → Type 0
IsShortText s = length s < 2 ^ 16

texts_passed : (xs : List (List ℕ)) → IsShortList xs → ArePassed 1 (texts_text xs)
texts_passed xs fits =
    split (eqb (length xs) 0) (λ (t : List ℕ). ArePassed 1 t) (0xc0 ∷ []) (list_len_text (length xs) ++ flat_map raw_text xs)
    (λ _. nil_passed) (λ _. list_passed raw_text IsShortText raw_passed xs fits.1 fits.0)

no_texts_again : (xs : List (List ℕ)) → length xs ≡ 0 → listed text_at (0xc0 ∷ []) ≡ Ok xs
unfolding list_len_at list_len_of form_of many_at
no_texts_again xs e = let none : xs ≡ [] = nil_from_length xs e in rw none refl

texts_again : (xs : List (List ℕ)) → IsShortList xs → listed text_at (texts_text xs) ≡ Ok xs
texts_again xs fits =
    split (eqb (length xs) 0) (λ (t : List ℕ). listed text_at t ≡ Ok xs) (0xc0 ∷ []) (list_len_text (length xs) ++ flat_map raw_text xs)
    (λ e. no_texts_again xs (eqb-true _ _ e))
    (λ _. listed_again text_at raw_text IsShortText
    (λ x rest lt. text_again x rest lt) xs fits.1 fits.0)

abbrev response_slots : KeyResponseValue → Slots
response_slots m =
    Some (Slot.flag m.result) ∷ Some (Slot.raw m.message) ∷ Some (Slot.raw (texts_text m.keys)) ∷ Some (Slot.raw m.primary_key)
    ∷ None ∷ None ∷ None ∷ None ∷ None ∷ None ∷ None ∷ []

response_fields_again : (m : KeyResponseValue) → IsShortKeyResponse m
    → fields_at key_response_layout (entries_text (key_response_entries m)) ≡ filled (response_slots m) []
response_fields_again m fits =
    let e4 : Entry = (keys.Result, Spelled.flag m.result) in
    let e3 : Entry = (keys.PrimaryKey, Spelled.text m.primary_key) in
    let e2 : Entry = (keys.Message, Spelled.text m.message) in
    let e1 : Entry = (keys.Keys, Spelled.whole (texts_text m.keys)) in
    let s1 = entry_step key_response_layout e1 (e2 ∷ e3 ∷ e4 ∷ []) no_slots 2 (Slot.raw (texts_text m.keys)) [] (lit< tt) refl (lit< tt)
    (λ more. whole_field_again _ (texts_text m.keys) more (texts_passed m.keys fits.keys)) in
    let s2 = entry_step key_response_layout e2 (e3 ∷ e4 ∷ []) _ 1 (Slot.raw m.message) [] (lit< tt) refl
    (lit< tt) (λ more. string_again _ m.message more fits.message) in
    let s3 = entry_step key_response_layout e3 (e4 ∷ []) _ 3 (Slot.raw m.primary_key) [] (lit< tt) refl
    (lit< tt) (λ more. string_again _ m.primary_key more fits.primary_key) in
    let s4 = entry_step key_response_layout e4 [] _ 0 (Slot.flag m.result) [] (lit< tt) refl (lit< tt)
    (λ more. truth_again _ m.result more) in
    alone_again key_response_layout (key_response_entries m) (response_slots m) (lit< tt)
    (s1 ∙ s2 ∙ s3 ∙ s4 ∙ no_pairs key_response_layout 0 _ _ refl)

pub key_response_again : (m : KeyResponseValue) → IsShortKeyResponse m → key_response_of (key_response_bytes m) ≡ Ok m
unfolding key_response_after key_response_from
key_response_again m fits = rw (response_fields_again m fits, texts_again m.keys fits.keys) refl
