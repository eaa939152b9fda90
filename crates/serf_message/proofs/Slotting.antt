-- The steps of reading fields into their slots.
use Rattle.std.proofs.Common.{◌≡◌, inl, inr, ℕ, zero, suc, ◌<◌, List, [], ◌∷◌, length, get_or, set, Option, Some, None}
use Rattle.std.proofs.Common.{Result, Ok, Err, refl, sym, ap, ◌∙◌, arith}
use Rattle.std.proofs.lemmas.List.{get_or-map, map-set, set-set}
use Rattle.std.specs.Option.{option_map}
use Rattle.swim_pack.specs.Composing.{gives, then_read}
use Rattle.serf_message.specs.declared.fault.SerfFault.{SerfFault}
use Rattle.serf_message.specs.declared.field_value.Value.{Value}
use Rattle.serf_message.specs.declared.layout.Field.{Field}
use Rattle.serf_message.specs.declared.layout.Key.TheVariants as keys
use Rattle.serf_message.specs.declared.layout.Kind.TheVariants as kinds
use Rattle.serf_message.specs.Reading.{IsFault, Fields, kind_at, slot_at, values_at, text_at, behind_key, place_of}
use Rattle.serf_message.specs.Reading.{pair_at, pairs_at, elements_at}
use Rattle.serf_message.specs.Slots.{Slots, slot}
use Rattle.serf_message.proofs.Passed.{none_left}
use Rattle.serf_message.specs.Values.{slot_of, slots_of}

abbrev pub ReadSlots : Type 0
ReadSlots = Result (Slots × List ℕ) SerfFault

abbrev pub filled : Slots → List ℕ → ReadSlots
filled slots rest = Ok (slots, rest)

abbrev pub refused : SerfFault → ReadSlots
refused error = Err error

-- what refuses the first refuses the second
pub fault_of : {A B : Type 0} (a : Result A SerfFault) (b : Result B SerfFault) (error : SerfFault)
    → (a ≡ Err error → b ≡ Err error) → IsFault a error → IsFault b error
fault_of a b error go (inl e) = inl (go e)
fault_of a b error go (inr e) = inr e

-- ---- slots

pub slot_is : (values : List (Option Value)) (place : ℕ) (old : Option Value) → place < length values → old ≡ get_or values place old
    → slot (slots_of values) place ≡ option_map slot_of old
slot_is values place old lt e =
    get_or-map (λ value. option_map slot_of value) values place old None lt ∙ ap (λ value. option_map slot_of value) (sym e)

pub slot_seen : (values : List (Option Value)) (place : ℕ) (d : Option Value) → place < length values
    → slot (slots_of values) place ≡ option_map slot_of (get_or values place d)
slot_seen values place d lt = get_or-map (λ value. option_map slot_of value) values place d None lt

pub slots_after : (values : List (Option Value)) (place : ℕ) (between : Option Value) (value : Value)
    → slots_of (set (set values place between) place (Some value)) ≡ set (slots_of values) place (Some (slot_of value))
slots_after values place between value =
    ap slots_of (set-set values place between (Some value)) ∙ map-set (λ v. option_map slot_of v) values place (Some value)

-- what an index past the end would give
abbrev pub no_field : Field
no_field = record { key = keys.Addr; kind = kinds.Uint64 }

pub kind_is : (layout : Fields) (place : ℕ) (d : Field) → place < length layout → kind_at layout place ≡ (get_or layout place d).kind
kind_is [] place d lt = absurd (omega arith)
kind_is (field ∷ layout) zero d lt = refl
kind_is (field ∷ layout) (suc place) d lt = kind_is layout place d (omega arith)

-- ---- a pair

pub known_pair : (layout : Fields) (slots : Slots) (bytes key rest : List ℕ) (place : ℕ) (d : Field) → text_at bytes ≡ Ok (key, rest)
    → place_of layout key ≡ Some place → place < length layout
    → pair_at layout slots bytes ≡ slot_at (get_or layout place d).kind slots place rest
unfolding pair_at behind_key
known_pair layout slots bytes key rest place d read found lt =
    rw (read, found) (ap (λ kind. slot_at kind slots place rest) (kind_is layout place d lt))

pub unknown_pair : (layout : Fields) (slots : Slots) (bytes key rest : List ℕ) → text_at bytes ≡ Ok (key, rest)
    → place_of layout key ≡ None → pair_at layout slots bytes ≡ then_read (λ passed. gives slots) (values_at 1 rest)
unfolding pair_at behind_key
unknown_pair layout slots bytes key rest read found = rw (read, found) refl

pub bad_key : (layout : Fields) (slots : Slots) (bytes : List ℕ) (error : SerfFault)
    → text_at bytes ≡ Err error → pair_at layout slots bytes ≡ refused error
unfolding pair_at
bad_key layout slots bytes error e = rw e refl

-- ---- pairs

pub no_pairs : (layout : Fields) (n : ℕ) (slots : Slots) (bytes : List ℕ) → n ≡ 0 → pairs_at layout n slots bytes ≡ filled slots bytes
unfolding pairs_at
no_pairs layout n slots bytes e = rw e refl

pub one_pair : (layout : Fields) (n next : ℕ) (slots more : Slots) (bytes after : List ℕ) → n ≡ suc next
    → pair_at layout slots bytes ≡ filled more after
    → pairs_at layout n slots bytes ≡ pairs_at layout next more after
unfolding pairs_at
one_pair layout n next slots more bytes after e read = rw (e, read) refl

pub bad_pair : (layout : Fields) (n next : ℕ) (slots : Slots) (bytes : List ℕ) (error : SerfFault)
    → n ≡ suc next → pair_at layout slots bytes ≡ refused error
    → pairs_at layout n slots bytes ≡ refused error
unfolding pairs_at
bad_pair layout n next slots bytes error e read = rw (e, read) refl

-- ---- elements

pub no_elements : (layout : Fields) (place n : ℕ) (slots : Slots) (bytes : List ℕ) → n ≡ 0
    → elements_at layout place n slots bytes ≡ filled slots bytes
unfolding elements_at
no_elements [] place n slots bytes e = rw e refl
no_elements (field ∷ layout) place n slots bytes e = rw e refl

pub one_element : (field : Field) (layout : Fields) (place n next : ℕ) (slots more : Slots) (bytes after : List ℕ) → n ≡ suc next
    → slot_at field.kind slots place bytes ≡ filled more after
    → elements_at (field ∷ layout) place n slots bytes ≡ elements_at layout (suc place) next more after
unfolding elements_at
one_element field layout place n next slots more bytes after e read = rw (e, read) refl

pub bad_element : (field : Field) (layout : Fields) (place n next : ℕ) (slots : Slots) (bytes : List ℕ) (error : SerfFault) → n ≡ suc next
    → slot_at field.kind slots place bytes ≡ refused error → elements_at (field ∷ layout) place n slots bytes ≡ refused error
unfolding elements_at
bad_element field layout place n next slots bytes error e read = rw (e, read) refl

no_values : (bytes : List ℕ) → values_at 0 bytes ≡ Ok (tt, bytes)
unfolding values_at
no_values bytes = none_left (length bytes) 0 bytes refl

pub later_elements : (place n : ℕ) (slots : Slots) (bytes : List ℕ)
    → elements_at [] place n slots bytes ≡ then_read (λ passed. gives slots) (values_at n bytes)
unfolding elements_at
later_elements place zero slots bytes = sym (ap (then_read (λ passed. gives slots)) (no_values bytes))
later_elements place (suc n) slots bytes = refl
