-- Values that memberlist writes are read back.
use Rattle.std.proofs.Common.{◌≡◌, ℕ, ◌+◌, ◌-◌, ◌^◌, ◌<◌, ◌≤◌, Bool, true, false, cond, ltb, eqb, List, [], ◌∷◌, ◌++◌}
use Rattle.std.proofs.Common.{length, get_or, set, Option, Some, None, Result, Ok, refl, sym, ap, ◌∙◌, append_assoc}
use Rattle.std.proofs.Common.{append-nil, arith, length-append}
use Rattle.std.proofs.lemmas.Bool.{lt-ltb, le-ltb, ltb-true, eqb-true}
use Rattle.std.proofs.lemmas.List.{nil_from_length}
use Rattle.std.proofs.Math.Seq.{take-append_seam, drop-append_seam}
use Rattle.byteorder.specs.Endian.{big_number, big_bytes}
use Rattle.byteorder.specs.Numbers.{big_number-reads_back, length-bytes_high_first}
use Rattle.swim_pack.specs.Spelling.{number_text, raw_text, flag_text}
use Rattle.swim_pack.specs.Composing.{gives, lift_error}
use Rattle.swim_pack.proofs.Canonical.{number_text_is}
use Rattle.swim_pack.proofs.Numbers.{uint_again}
use Rattle.swim_wire.specs.declared.fault.WireFault.{WireFault}
use Rattle.swim_wire.specs.Fault.{fault_of_pack}
use Rattle.swim_wire.specs.Reading.{Reading}
use Rattle.memberlist_message.specs.declared.form.Count.{Count}
use Rattle.memberlist_message.specs.declared.form.Count.TheVariants.{Fixed, Two}
use Rattle.memberlist_message.specs.declared.form.Form.TheVariants as forms
use Rattle.memberlist_message.specs.Forms.{form_of, long_form_of}
use Rattle.memberlist_message.specs.Reading.{bytes_at, count_at, number_at, flag_of, flag_at, text_count, text_at}
use Rattle.memberlist_message.specs.Reading.{raw_over, bytes_of, field_bytes_at, Fields, value_at, place_of, slot_at}
use Rattle.memberlist_message.specs.Reading.{pair_at}
use Rattle.memberlist_message.specs.declared.layout.Kind.TheVariants as kinds
use Rattle.memberlist_message.specs.Slots.{Slot, Slots, slot}
use Rattle.memberlist_message.specs.Slots.Slot.{long, raw}
use Rattle.memberlist_message.proofs.Slotting.{no_field, known_pair, filled}

abbrev pub read : {A : Type 0} → A → List ℕ → Result (A × List ℕ) WireFault
read value rest = Ok (value, rest)

pub bytes_again : (s rest : List ℕ) → bytes_at (length s) (s ++ rest) ≡ read s rest
unfolding bytes_at
bytes_again s rest =
    let long : length s ≤ length (s ++ rest) = omega (arith, length-append s rest) in
    let fits : ltb (length (s ++ rest)) (length s) ≡ false = le-ltb _ _ long in
    rw (fits, take-append_seam s rest, drop-append_seam s rest) refl

pub number_again : (max v : ℕ) (rest : List ℕ) → v ≤ max → v < 2 ^ 64 → number_at max (number_text v ++ rest) ≡ read v rest
unfolding number_at
number_again max v rest le lt = ap (lift_error fault_of_pack) (uint_again max (number_text v) rest v le (number_text_is v lt))

pub flag_again : (f : Bool) (rest : List ℕ) → flag_at (flag_text f ++ rest) ≡ read f rest
unfolding flag_at flag_of
flag_again true rest = refl
flag_again false rest = refl

-- the form of a short text
short_form : (n : ℕ) → n < 32 → form_of (0xa0 + n) ≡ Some (forms.Text (Fixed n))
unfolding form_of
short_form n lt =
    let a : ltb (0xa0 + n) 0x80 ≡ false = le-ltb _ _ (omega arith) in
    let b : ltb (0xa0 + n) 0x90 ≡ false = le-ltb _ _ (omega arith) in
    let c : ltb (0xa0 + n) 0xa0 ≡ false = le-ltb _ _ (omega arith) in
    let d : ltb (0xa0 + n) 0xc0 ≡ true = lt-ltb _ _ (omega arith) in
    let e : 0xa0 + n - 0xa0 ≡ n = omega arith in
    rw (a, b, c, d, e) refl

-- the length in two bytes
two_again : (n : ℕ) (rest : List ℕ) → n < 2 ^ 16 → count_at Two (big_bytes 2 n ++ rest) ≡ read n rest
unfolding count_at
two_again n rest lt =
    let long : length (big_bytes 2 n) ≡ 2 = length-bytes_high_first 2 n in
    let value : big_number 2 (big_bytes 2 n) ≡ n = ap (big_number 2) (sym (append-nil (big_bytes 2 n))) ∙ big_number-reads_back 2 n [] lt in
    let digits : bytes_at 2 (big_bytes 2 n ++ rest) ≡ read (big_bytes 2 n) rest = ap
    (λ k. bytes_at k (big_bytes 2 n ++ rest)) (sym long) ∙ bytes_again (big_bytes 2 n) rest in
    rw (digits, value) refl

split : {A : Type 0} (b : Bool) (P : A → Type 0) (x y : A) → (b ≡ true → P x) → (b ≡ false → P y) → P (cond b x y)
split true P x y first other = first refl
split false P x y first other = other refl

-- a text, short or long
short_text : (s rest : List ℕ) → length s < 32 → text_at (((0xa0 + length s) ∷ [] ++ s) ++ rest) ≡ read s rest
unfolding text_at text_count count_at
short_text s rest lt =
    let low : ltb (0xa0 + length s) 0xe0 ≡ true = lt-ltb _ _ (omega arith) in
    rw (low, short_form (length s) lt) (bytes_again s rest)

long_text : (s rest : List ℕ) → length s < 2 ^ 16 → text_at ((0xda ∷ big_bytes 2 (length s) ++ s) ++ rest) ≡ read s rest
unfolding text_at text_count form_of long_form_of
long_text s rest lt = rw (append_assoc (big_bytes 2 (length s)) s rest, two_again (length s) (s ++ rest) lt) (bytes_again s rest)

pub text_again : (s rest : List ℕ) → length s < 2 ^ 16 → text_at (raw_text s ++ rest) ≡ read s rest
unfolding raw_text
text_again s rest lt =
    split (ltb (length s) 32) (λ head. text_at ((head ++ s) ++ rest) ≡ read s rest) ((0xa0 + length s) ∷ []) (0xda ∷ big_bytes 2 (length s))
    (λ e. short_text s rest (ltb-true _ _ e)) (λ _. long_text s rest lt)

fixed_again : (n : ℕ) (rest : List ℕ) → count_at (Fixed n) rest ≡ read n rest
unfolding count_at
fixed_again n rest = refl

-- bytes over none, after their length
raw_again : (s rest : List ℕ) (count : Count) (after : List ℕ)
    → count_at count after ≡ read (length s) (s ++ rest) → raw_over [] count after ≡ read s rest
unfolding raw_over
raw_again s rest count after e =
    rw e (split (eqb (length s) 0) (λ (reading : Reading (List ℕ)). reading (s ++ rest) ≡ read s rest) (gives []) (bytes_at (length s))
    (λ e. let none : s ≡ [] = nil_from_length s (eqb-true _ _ e) in rw none refl)
    (λ _. bytes_again s rest))

short_bytes : (s rest : List ℕ) → length s < 32 → field_bytes_at [] (((0xa0 + length s) ∷ [] ++ s) ++ rest) ≡ read s rest
unfolding field_bytes_at bytes_of
short_bytes s rest lt = rw (short_form (length s) lt) (raw_again s rest (Fixed (length s)) (s ++ rest) (fixed_again (length s) (s ++ rest)))

long_bytes : (s rest : List ℕ) → length s < 2 ^ 16 → field_bytes_at [] ((0xda ∷ big_bytes 2 (length s) ++ s) ++ rest) ≡ read s rest
unfolding field_bytes_at bytes_of form_of long_form_of
long_bytes s rest lt = rw (append_assoc (big_bytes 2 (length s)) s rest)
    (raw_again s rest Two (big_bytes 2 (length s) ++ (s ++ rest)) (two_again (length s) (s ++ rest) lt))

pub field_bytes_again : (s rest : List ℕ) → length s < 2 ^ 16 → field_bytes_at [] (raw_text s ++ rest) ≡ read s rest
unfolding raw_text
field_bytes_again s rest lt =
    split (ltb (length s) 32) (λ head. field_bytes_at [] ((head ++ s) ++ rest) ≡ read s rest)
    ((0xa0 + length s) ∷ []) (0xda ∷ big_bytes 2 (length s))
    (λ e. short_bytes s rest (ltb-true _ _ e)) (λ _. long_bytes s rest lt)

-- ---- a field of a map

-- the value of a field is read into its slot
pub long_again : (old : Option Slot) (v : ℕ) (rest : List ℕ) → v < 2 ^ 32
    → value_at kinds.Uint32 old (number_text v ++ rest) ≡ read (long v) rest
unfolding value_at
long_again old v rest lt = rw (number_again 0xffff_ffff v rest (omega arith) (omega arith)) refl

pub string_again : (old : Option Slot) (s rest : List ℕ) → length s < 2 ^ 16
    → value_at kinds.Text old (raw_text s ++ rest) ≡ read (raw s) rest
unfolding value_at
string_again old s rest lt = rw (text_again s rest lt) refl

pub array_again : (s rest : List ℕ) → length s < 2 ^ 16 → value_at kinds.Bytes None (raw_text s ++ rest) ≡ read (raw s) rest
unfolding value_at
array_again s rest lt = rw (field_bytes_again s rest lt) refl

-- a key of the layout and its value
pub pair_again : (layout : Fields) (slots : Slots) (key value rest : List ℕ) (place : ℕ) (filling : Slot) → length key < 2 ^ 16
    → place_of layout key ≡ Some place → place < length layout
    → value_at (get_or layout place no_field).kind (slot slots place)
    (value ++ rest) ≡ read filling rest
    → pair_at layout slots ((raw_text key ++ value) ++ rest) ≡ filled (set slots place (Some filling)) rest
unfolding slot_at
pair_again layout slots key value rest place filling short found within e =
    ap (pair_at layout slots) (append_assoc (raw_text key) value rest)
    ∙ known_pair layout slots (raw_text key ++ (value ++ rest)) key (value ++ rest) place no_field
    (text_again key (value ++ rest) short) found within
    ∙ rw e refl
