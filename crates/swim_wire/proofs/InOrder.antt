-- Maps that have all their keys in alphabetical order, and their fields.
use Rattle.std.proofs.Common.{◌≡◌, ℕ, suc, ◌+◌, ◌<◌, ◌≤◌, true, eqb, eqb-true, List, [], ◌∷◌, ◌++◌, length, take, drop}
use Rattle.std.proofs.Common.{Option, Some, None, Result, Ok, Err, refl, sym, ap, ◌∙◌, get_or-set_other, arith}
use Rattle.std.proofs.lemmas.List.{length-append, nil_from_length, take-append-drop}
use Rattle.std.specs.Prelude.{slice_set, IfSome}
use Rattle.swim_claim.specs.declared.claim.Claim.{Claim}
use Rattle.swim_pack.specs.Spelling.{raw_text, Count as counts}
use Rattle.swim_pack.proofs.Canonical.{raw_text_is}
use Rattle.swim_pack.proofs.Numbers.{raw_again, count_again}
use Rattle.swim_wire.specs.declared.fault.WireFault.{WireFault}
use Rattle.swim_wire.specs.declared.stream.Header.{Header}
use Rattle.swim_wire.specs.Layout.{Layout, Spelled, header_layout, state_layout}
use Rattle.swim_wire.specs.Reading.{nothing_after, checked, state_of, Slots, slot, value_at, limit_at, key_at, pair_at}
use Rattle.swim_wire.specs.Reading.{pairs_at, no_slots, map_at, state_at, header_of, header_at}
use Rattle.swim_wire.proofs.Filling.{no_slot}
use Rattle.swim_wire.proofs.Keys.{IsLegalLayout, key_in, all_at, own_place, header_legal, state_legal}
use Rattle.swim_wire.proofs.Maps.{map_takes}
use Rattle.swim_wire.proofs.Messages.{message_at}
use Rattle.swim_wire.proofs.Readings.{read}

-- the bytes are their prefix and what is after it
pub split_front : (n : ℕ) (bytes front rest text : List ℕ) → front ≡ take n bytes → rest ≡ drop n bytes
    → front ≡ text → bytes ≡ text ++ rest
split_front n bytes front rest text front_is rest_is same = rw (← same, front_is, rest_is) (sym (take-append-drop n bytes))

-- a key at the start, then a value within its limit
pair_in_order : (layout : Layout) (slots : Slots) (place : ℕ) (bytes mid rest : List ℕ) (value : Spelled)
    → IsLegalLayout layout → place < length layout → slot slots place ≡ None
    → bytes ≡ raw_text (key_in layout place) ++ mid → value_at (limit_at layout place) mid ≡ read value rest
    → pair_at layout slots bytes ≡ read (slice_set slots place (Some value)) rest
unfolding pair_at key_at
pair_in_order layout slots place bytes mid rest value legal inside vacant is e =
    let key = key_in layout place in
    let short : length key ≤ 12 = all_at (λ k. length k ≤ 12) layout place legal.short inside in
    let again = raw_again 12 (raw_text key) mid key short (raw_text_is key (omega (arith, short))) in
    rw (is, again, own_place layout place legal.distinct inside, vacant, e) refl

-- a key of the layout after this prefix, its value after it, and what is left
abbrev pub Behind : List ℕ → Layout → ℕ → List ℕ → Spelled → List ℕ → Type 0
Behind front layout place bytes value rest =
    (mid : List ℕ) × (bytes ≡ front ++ (raw_text (key_in layout place) ++ mid)) × (value_at (limit_at layout place) mid ≡ read value rest)

-- the last n keys of the layout, each after the value before it, fill the slots from this index on
pub record InOrder (layout : Layout) (place n : ℕ) (slots : Slots) (bytes : List ℕ) (out : Slots) (rest : List ℕ) : Type 0 where
  by : IsLegalLayout layout → place + n ≤ length layout → ((k : ℕ) → place ≤ k → slot slots k ≡ None)
      → pairs_at layout n slots bytes ≡ read out rest

pub done : {layout : Layout} {place : ℕ} {slots : Slots} {rest : List ℕ} → InOrder layout place 0 slots rest slots rest
unfolding pairs_at
done = record { by = λ legal few vacant. refl }

-- a pair, and then the others
pub next : {layout : Layout} {place n : ℕ} {slots out : Slots} {bytes mid rest : List ℕ} {value : Spelled}
    → Behind [] layout place bytes value mid
    → InOrder layout (suc place) n (slice_set slots place (Some value)) mid out rest → InOrder layout place (suc n) slots bytes out rest
unfolding pairs_at
next {layout} {place} {n} {slots} {out} {bytes} {mid} {rest} {value} pair more = record {
  by = λ legal few vacant.
      rw (pair_in_order layout slots place bytes pair.0 mid value legal (omega arith) (vacant place (omega arith)) pair.1 pair.2)
      (more.by legal (omega arith) (λ k later. get_or-set_other slots place k (Some value) None
      (λ same. absurd (omega arith)) ∙ vacant k (omega arith)));
}

-- a map of fewer than 16 pairs, after their count in one byte
pub map_in_order : {layout : Layout} {n : ℕ} {bytes mid rest : List ℕ} {value : Spelled} {out : Slots}
    → IsLegalLayout layout → length layout ≡ suc n
    → Behind ((0x80 + suc n) ∷ []) layout 0 bytes value mid → InOrder layout 1 n (slice_set no_slots 0 (Some value)) mid out rest
    → map_at layout bytes ≡ read out rest
unfolding map_at
map_in_order {layout} {n} {bytes} {mid} {rest} {value} {out} legal all first more =
    let few = legal.few in
    let start = raw_text (key_in layout 0) ++ first.0 in
    let whole : InOrder layout 0 (suc n) no_slots start out rest = next (first.0, refl, first.2) more in
    let count = count_again (length layout) ((0x80 + suc n) ∷ []) start (suc n) (omega (arith, all))
    (counts.fixmap (omega (arith, few, all)) refl) in
    rw (first.1, count) (whole.by legal (omega (arith, all)) (λ k _. no_slot k))

-- ---- what is after them is shorter

pub state_shorter : (bytes rest : List ℕ) (slots : Slots) → map_at state_layout bytes ≡ read slots rest → length rest ≤ length bytes
state_shorter bytes rest slots e =
    let parts = (map_takes state_layout bytes slots rest state_legal e).3 in
    let text = (map_takes state_layout bytes slots rest state_legal e).0 in
    omega (arith, ap length parts ∙ length-append text rest)

pub header_shorter : (bytes body rest : List ℕ) (slots : Slots) → bytes ≡ 6 ∷ body
    → map_at header_layout body ≡ read slots rest → length rest ≤ length bytes
header_shorter bytes body rest slots is e =
    let parts = (map_takes header_layout body slots rest header_legal e).3 in
    let text = (map_takes header_layout body slots rest header_legal e).0 in
    omega (arith, ap length parts ∙ length-append text rest, ap length is)

-- ---- their fields

checked_alone : {A : Type 0} (r : Result A WireFault) → nothing_after (checked r []) ≡ r
checked_alone (Ok x) = refl
checked_alone (Err error) = refl

-- those of a map with nothing after it
pub map_told : {A : Type 0} (layout : Layout) (of_slots : Slots → Result A WireFault) (body rest : List ℕ) (slots : Slots)
    → map_at layout body ≡ read slots rest → eqb (length rest) 0 ≡ true → nothing_after (message_at layout of_slots body) ≡ of_slots slots
map_told layout of_slots body rest slots e none = rw (e, nil_from_length rest (eqb-true _ _ none)) (checked_alone (of_slots slots))

-- the type byte
pub type_is : {bytes body : List ℕ} {first : ℕ} (type : ℕ) → bytes ≡ first ∷ body → first ≡ type → bytes ≡ type ∷ body
type_is {body} type split is = split ∙ ap (λ (n : ℕ). n ∷ body) is

pub state_told : (bytes rest : List ℕ) (slots : Slots) (claim : Claim) → map_at state_layout bytes ≡ read slots rest
    → state_of slots ≡ Ok claim → state_at bytes ≡ read claim rest
unfolding state_at
state_told bytes rest slots claim e is = rw (e, is) refl

pub header_told : (bytes body rest : List ℕ) (slots : Slots) (header : Header) → bytes ≡ 6 ∷ body
    → map_at header_layout body ≡ read slots rest
    → header_of slots ≡ Ok header → header_at bytes ≡ read header rest
unfolding header_at
header_told bytes body rest slots header first e is = rw (first, e, is) refl

-- ---- a returned value with a property also has each weaker one

pub if_some_more : {X : Type 0} (A B : X → Type 0) (o : Option X) → ((x : X) → A x → B x) → IfSome o A → IfSome o B
if_some_more A B None f h = tt
if_some_more A B (Some x) f h = f x h
