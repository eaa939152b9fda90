-- Slots that pairs fill, each pair that of its key.
use Rattle.std.proofs.Common.{◌≡◌, ◌≢◌, ℕ, zero, suc, ◌<◌, ◌≤◌, Bool, true, false, cond, List, [], ◌∷◌, length, Option}
use Rattle.std.proofs.Common.{Some, None, refl, sym, ap, ◌∙◌, length-set, get_or-set_same, get_or-set_other, ap₂, arith}
use Rattle.std.specs.Prelude.{slice_set}
use Rattle.std.specs.List.{IsDistinct, AllByRecursion}
use Rattle.std.specs.Map.{keys_of}
use Rattle.std.specs.Str.{bytes_eq}
use Rattle.swim_wire.specs.Layout.{Layout, Spelled, Pairs, PairText, PairTexts, of_key}
use Rattle.swim_wire.specs.Reading.{Slots, slot, place_of, no_slots}
use Rattle.swim_wire.proofs.Keys.{IsLegalLayout, key_in, same_key, key_same, other_key, false≢true, first_from_place}
use Rattle.swim_wire.proofs.Keys.{place_from_first, some_is, found, own_place}

-- the value of each key of the layout is at its index
abbrev pub HoldsSlots : Layout → Pairs → Slots → Type 0
HoldsSlots layout pairs slots = (place : ℕ) → place < length layout → slot slots place ≡ of_key (key_in layout place) pairs

-- the pairs go, one after the other, into slots that had no value
abbrev pub Fills : Layout → Slots → Pairs → Slots → Type 0
Fills layout slots [] out = out ≡ slots
Fills layout slots (pair ∷ pairs) out =
    (place : ℕ) × (place_of layout pair.0 ≡ Some place) × (slot slots place ≡ None)
    × Fills layout (slice_set slots place (Some pair.1)) pairs out

some≢none : {A : Type 0} (x : A) → Some x ≡ None → ⊥
some≢none x e = cc

-- if a slot has a value, no pair has its key
fills_apart : (layout : Layout) (slots : Slots) (pairs : Pairs) (out : Slots) (key : List ℕ) (place : ℕ)
    → Fills layout slots pairs out → place_of layout key ≡ Some place
    → slot slots place ≢ None → AllByRecursion (λ y. bytes_eq key y ≡ false) (keys_of pairs)
fills_apart layout slots [] out key place fills at full = tt
fills_apart layout slots (pair ∷ pairs) out key place fills at full =
    let differ : place ≢ fills.0 = λ same. full (ap (slot slots) same ∙ fills.2) in (
      other_key key pair.0 (λ same. differ (some_is place fills.0 (sym at ∙ ap (place_of layout) same ∙ fills.1))),
      fills_apart layout (slice_set slots fills.0 (Some pair.1)) pairs out key place fills.3 at
          (λ e. full (sym (get_or-set_other slots fills.0 place (Some pair.1) None differ) ∙ e)),
    )

-- the slot that a pair fills
filled_slot : (layout : Layout) (slots : Slots) (key : List ℕ) (value : Spelled) (place : ℕ)
    → length layout ≤ length slots → place_of layout key ≡ Some place
    → slot (slice_set slots place (Some value)) place ≡ Some value
filled_slot layout slots key value place room at =
    let first = first_from_place layout key place at in
    let inside = first.inside in
    get_or-set_same slots place (Some value) None (omega arith)

pub fills_distinct : (layout : Layout) (slots : Slots) (pairs : Pairs) (out : Slots) → length layout ≤ length slots
    → Fills layout slots pairs out → IsDistinct bytes_eq (keys_of pairs)
unfolding IsDistinct
fills_distinct layout slots [] out room fills = tt
fills_distinct layout slots (pair ∷ pairs) out room fills =
    let next = slice_set slots fills.0 (Some pair.1) in
    let long = length-set slots fills.0 (Some pair.1) in (
      fills_apart layout next pairs out pair.0 fills.0 fills.3 fills.1
          (λ e. some≢none pair.1 (sym (filled_slot layout slots pair.0 pair.1 fills.0 room fills.1) ∙ e)),
      fills_distinct layout next pairs out (omega arith) fills.3,
    )

no_pair : (key : List ℕ) (pairs : Pairs) → AllByRecursion (λ y. bytes_eq key y ≡ false) (keys_of pairs) → of_key key pairs ≡ None
no_pair key [] apart = refl
no_pair key (pair ∷ pairs) apart = rw apart.0 (no_pair key pairs apart.1)

-- a new value, or else the old one
abbrev pub or_kept : Option Spelled → Option Spelled → Option Spelled
or_kept None old = old
or_kept (Some value) old = Some value

fills_hold : (layout : Layout) (slots : Slots) (pairs : Pairs) (out : Slots) → IsDistinct bytes_eq (keys_of layout)
    → length layout ≤ length slots → Fills layout slots pairs out
    → (place : ℕ) → place < length layout → slot out place ≡ or_kept (of_key (key_in layout place) pairs) (slot slots place)
fills_hold layout slots [] out distinct room fills place inside = ap (λ (s : Slots). slot s place) fills
fills_hold layout slots (pair ∷ pairs) out distinct room fills place inside =
    let next = slice_set slots fills.0 (Some pair.1) in
    let long = length-set slots fills.0 (Some pair.1) in
    by (bytes_eq (key_in layout place) pair.0) refl (fills_hold layout next pairs out distinct (omega arith) fills.3 place inside)
  where
    key : List ℕ
    key = key_in layout place

    by : (b : Bool) → bytes_eq (key_in layout place) pair.0 ≡ b
        → slot out place ≡ or_kept (of_key (key_in layout place) pairs) (slot (slice_set slots fills.0 (Some pair.1)) place)
        → slot out place ≡ or_kept (cond b (Some pair.1) (of_key (key_in layout place) pairs)) (slot slots place)
    by true t later =
        let same = same_key (key_in layout place) pair.0 t in
        let at = own_place layout place distinct inside in
        let here : place ≡ fills.0 = some_is place fills.0 (sym at ∙ ap (place_of layout) same ∙ fills.1) in
        let value = filled_slot layout slots pair.0 pair.1 fills.0 room fills.1 in
        let none =
        no_pair pair.0 pairs
        (fills_apart layout (slice_set slots fills.0 (Some pair.1)) pairs out pair.0 fills.0 fills.3 fills.1
        (λ e. some≢none pair.1 (sym value ∙ e))) in
        later ∙ ap₂ or_kept (ap (λ (k : List ℕ). of_key k pairs) same ∙ none)
        (ap (slot (slice_set slots fills.0 (Some pair.1))) here ∙ value)
    by false t later =
        let first = first_from_place layout pair.0 fills.0 fills.1 in
        let differ : place ≢ fills.0 = λ same. false≢true
        (sym t ∙ key_same (key_in layout place) pair.0 (ap (key_in layout) same ∙ first.here)) in
        later ∙ ap (or_kept (of_key (key_in layout place) pairs)) (get_or-set_other slots fills.0 place (Some pair.1) None differ)

pub no_slot : (place : ℕ) → slot no_slots place ≡ None
no_slot zero = refl
no_slot (suc zero) = refl
no_slot (suc (suc zero)) = refl
no_slot (suc (suc (suc zero))) = refl
no_slot (suc (suc (suc (suc zero)))) = refl
no_slot (suc (suc (suc (suc (suc zero))))) = refl
no_slot (suc (suc (suc (suc (suc (suc zero)))))) = refl
no_slot (suc (suc (suc (suc (suc (suc (suc zero))))))) = refl
no_slot (suc (suc (suc (suc (suc (suc (suc (suc place)))))))) = refl

or_none : (o : Option Spelled) → or_kept o None ≡ o
or_none None = refl
or_none (Some value) = refl

pub holds_from_fills : (layout : Layout) (pairs : Pairs) (out : Slots) → IsLegalLayout layout
    → Fills layout no_slots pairs out → HoldsSlots layout pairs out
holds_from_fills layout pairs out legal fills place inside =
    fills_hold layout no_slots pairs out legal.distinct legal.few fills place inside
    ∙ ap (or_kept (of_key (key_in layout place) pairs)) (no_slot place) ∙ or_none (of_key (key_in layout place) pairs)

-- the slot of a key, if it has one, has no value
abbrev pub IsVacant : Layout → Slots → List ℕ → Type 0
IsVacant layout slots key = (place : ℕ) → place_of layout key ≡ Some place → slot slots place ≡ None

vacant_after : (layout : Layout) (slots : Slots) (key : List ℕ) (place : ℕ) (value : Spelled)
    (keys : List (List ℕ)) → place_of layout key ≡ Some place
    → AllByRecursion (λ y. bytes_eq key y ≡ false) keys → AllByRecursion (IsVacant layout slots) keys
    → AllByRecursion (IsVacant layout (slice_set slots place (Some value))) keys
vacant_after layout slots key place value [] at apart vacant = tt
vacant_after layout slots key place value
    (other ∷ keys) at apart vacant = (
      still,
      vacant_after layout slots key place value keys at apart.1 vacant.1,
    )
  where
    still : IsVacant layout (slice_set slots place (Some value)) other
    still q there =
        let first = first_from_place layout key place at in
        let second = first_from_place layout other q there in
        let differ : q ≢ place = λ same. false≢true
        (sym apart.0 ∙ key_same key other (sym first.here ∙ ap (key_in layout) (sym same)
        ∙ second.here)) in
        get_or-set_other slots place q (Some value) None differ ∙ vacant.0 q there

pub fills_from : (layout : Layout) (slots : Slots) (b : List ℕ) (pairs : Pairs) → PairTexts layout b pairs
    → IsDistinct bytes_eq (keys_of pairs)
    → AllByRecursion (IsVacant layout slots) (keys_of pairs) → (out : Slots) × Fills layout slots pairs out
unfolding IsDistinct
fills_from layout slots b [] texts distinct vacant = (slots, refl)
fills_from layout slots b (pair ∷ pairs) texts distinct vacant =
    let text : PairText layout texts.0 pair = texts.2 in
    let key = found layout pair.0 text.limit text.in_layout in
    let at = place_from_first layout pair.0 key.place key.first in
    let more = fills_from layout (slice_set slots key.place (Some pair.1)) texts.1 pairs texts.3 distinct.1
    (vacant_after layout slots pair.0 key.place pair.1 (keys_of pairs) at distinct.0 vacant.1) in
    (more.0, (key.place, at, vacant.0 key.place at, more.1))

pub all_vacant : (layout : Layout) (keys : List (List ℕ)) → AllByRecursion (IsVacant layout no_slots) keys
all_vacant layout [] = tt
all_vacant layout (key ∷ keys) = ((λ place at. no_slot place), all_vacant layout keys)
