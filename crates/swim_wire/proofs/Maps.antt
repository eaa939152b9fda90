-- A map that is read is a text of its layout, and each text of a layout is read.
use Rattle.std.proofs.Common.{◌≡◌, ℕ, zero, suc, ◌≤◌, Bool, true, false, ◌||◌, List, [], ◌∷◌, ◌++◌, length, Option}
use Rattle.std.proofs.Common.{Some, None, IsSome, Ok, refl, sym, ap, subst, ◌∙◌, append_assoc, arith}
use Rattle.std.proofs.lemmas.Cmp.{nat_list_eq_equiv}
use Rattle.std.proofs.lemmas.Map.Entries.{length-keys_of}
use Rattle.std.proofs.lemmas.Map.Steps.{length-le_from_keys}
use Rattle.std.specs.Prelude.{slice_set}
use Rattle.std.specs.List.{list_any}
use Rattle.std.specs.Map.{keys_of}
use Rattle.std.specs.Str.{bytes_eq}
use Rattle.swim_pack.specs.declared.fault.PackFault.{PackFault}
use Rattle.swim_pack.specs.Composing.{◌>>=◌, gives, some_or, lift}
use Rattle.swim_pack.specs.Composing as composing
use Rattle.swim_pack.specs.Spelling.{Raw}
use Rattle.swim_pack.specs.Reading.{uint_at, flag_at, raw_at, count_at}
use Rattle.swim_pack.proofs.Composing.{ConsumedText}
use Rattle.swim_pack.proofs.Numbers.{uint_takes, uint_again, raw_takes, raw_again, flag_takes, flag_again, count_takes, count_again}
use Rattle.swim_wire.specs.declared.fault.WireFault.TheVariants.{UnknownKey}
use Rattle.swim_wire.specs.declared.layout.Limit.{Limit}
use Rattle.swim_wire.specs.declared.layout.Limit.TheVariants as limits
use Rattle.swim_wire.specs.Fault.{fault_of_pack, fault_of_key}
use Rattle.swim_wire.specs.Layout.{Layout, Spelled, Spells, Pairs, PairText, PairTexts, MapText, of_key}
use Rattle.swim_wire.specs.Layout.Spelled.{number, raw, flag}
use Rattle.swim_wire.specs.Reading.{Reading, Slots, slot, value_at, place_of, limit_at, if_vacant, key_at, pair_at}
use Rattle.swim_wire.specs.Reading.{pairs_at, no_slots, map_at}
use Rattle.swim_wire.proofs.Readings.{parts_to, parts_joined, read, read_value, read_rest, then_ok, lift_ok, some_ok}
use Rattle.swim_wire.proofs.Keys.{IsLegalLayout, same_key, false≢true, first_from_place, place_from_first}
use Rattle.swim_wire.proofs.Keys.{limit_from_first, some_is, found, all_at}
use Rattle.swim_wire.proofs.Filling.{HoldsSlots, Fills, fills_distinct, holds_from_fills, fills_from, all_vacant}

-- a value that the layer below read
value_made : {A : Type 0} (limit : Limit) (reading : composing.Reading PackFault A) (make : A
    → Spelled) (bytes : List ℕ) (value : Spelled) (rest : List ℕ)
    → ((x : A) (mid : List ℕ) → reading bytes ≡ Ok (x, mid) → ConsumedText (λ b. Spells limit b (make x)) bytes mid)
    → (lift fault_of_pack reading >>= (λ x. gives (make x))) bytes ≡ read value rest → ConsumedText (λ b. Spells limit b value) bytes rest
value_made limit reading make bytes value rest each e =
    let t = then_ok (lift fault_of_pack reading bytes) (λ x. gives (make x)) value rest e in
    let h = each t.0 t.1 (lift_ok fault_of_pack (reading bytes) t.0 t.1 t.2) in
    subst (λ v. ConsumedText (λ b. Spells limit b v) bytes rest) (read_value (make t.0) value t.1 rest t.3)
    (record { text = h.text; is = h.is; parts = parts_to h.text h.parts (read_rest (make t.0) value t.1 rest t.3) })

value_takes : (limit : Limit) (bytes : List ℕ) (value : Spelled) (rest : List ℕ) → value_at limit bytes ≡ read value rest
    → ConsumedText (λ b. Spells limit b value) bytes rest
unfolding value_at
value_takes (limits.Number max) bytes value rest e = value_made (limits.Number max) (uint_at max) number bytes value rest
    (λ v mid ok. let h = uint_takes max bytes v mid ok in record { text = h.text; is = (h.is.1, h.is.0); parts = h.parts }) e
value_takes (limits.Raw limit) bytes value rest e = value_made (limits.Raw limit) (raw_at limit) raw bytes value rest
    (λ s mid ok. let h = raw_takes limit bytes s mid ok in record { text = h.text; is = (h.is.1, h.is.0); parts = h.parts }) e
value_takes limits.Flag bytes value rest e = value_made limits.Flag flag_at flag bytes value rest (λ f mid ok. flag_takes bytes f mid ok) e

value_again : (limit : Limit) (b rest : List ℕ) (value : Spelled) → Spells limit b value → value_at limit (b ++ rest) ≡ read value rest
unfolding value_at
value_again (limits.Number max) b rest (number v) is = rw (uint_again max b rest v is.1 is.0) refl
value_again (limits.Number max) b rest (raw s) is = absurd is
value_again (limits.Number max) b rest (flag f) is = absurd is
value_again (limits.Raw limit) b rest (number v) is = absurd is
value_again (limits.Raw limit) b rest (raw s) is = rw (raw_again limit b rest s is.1 is.0) refl
value_again (limits.Raw limit) b rest (flag f) is = absurd is
value_again limits.Flag b rest (number v) is = absurd is
value_again limits.Flag b rest (raw s) is = absurd is
value_again limits.Flag b rest (flag f) is = rw (flag_again b rest f is) refl

-- a pair was read into its slot
pub record PairTaken (layout : Layout) (slots : Slots) (bytes : List ℕ) (out : Slots) (rest : List ℕ) : Type 0 where
  pub text : List ℕ
  pub pair : List ℕ × Spelled
  pub place : ℕ
  pub is : PairText layout text pair
  pub parts : bytes ≡ text ++ rest
  pub at : place_of layout pair.0 ≡ Some place
  pub vacant : slot slots place ≡ None
  pub filled : out ≡ slice_set slots place (Some pair.1)

vacant_ok : (o : Option Spelled) (reading : Reading Spelled) (mid : List ℕ) (x : Spelled) (rest : List ℕ)
    → if_vacant o reading mid ≡ read x rest → (o ≡ None) × (reading mid ≡ read x rest)
vacant_ok None reading mid x rest e = (refl, e)
vacant_ok (Some y) reading mid x rest e = absurd cc

pair_made : (layout : Layout) (slots : Slots) (bytes k mid behind v end rest : List ℕ) (key : List ℕ) (value : Spelled)
    (place : ℕ) (out : Slots) → Raw k key → bytes ≡ k ++ mid
    → place_of layout key ≡ Some place → slot slots place ≡ None → Spells (limit_at layout place) v value → mid ≡ behind
    → behind ≡ v ++ end → end ≡ rest → out ≡ slice_set slots place (Some value)
    → PairTaken layout slots bytes out rest
pair_made layout slots bytes k mid behind v end rest key value place out key_is first at vacant value_is same second last filled = record {
  text = k ++ v;
  pair = (key, value);
  place = place;
  is = record {
    limit = limit_at layout place;
    in_layout = limit_from_first layout key place (first_from_place layout key place at);
    key_text = k;
    value_text = v;
    key = key_is;
    value = value_is;
    text = refl;
  };
  parts = parts_joined k v rest first (same ∙ parts_to v second last);
  at = at;
  vacant = vacant;
  filled = filled;
}

pub pair_takes : (layout : Layout) (slots : Slots) (bytes : List ℕ) (out : Slots) (rest : List ℕ)
    → pair_at layout slots bytes ≡ read out rest → PairTaken layout slots bytes out rest
unfolding pair_at key_at
pair_takes layout slots bytes out rest e =
    let t =
    then_ok (key_at layout bytes)
    (λ place. if_vacant (slot slots place) (value_at (limit_at layout place)) >>= (λ value. gives (slice_set slots place (Some value))))
    out rest e in
    let k = then_ok (lift fault_of_key (raw_at 12) bytes) (λ key. some_or UnknownKey (place_of layout key)) t.0 t.1 t.2 in
    let known = some_ok UnknownKey (place_of layout k.0) k.1 t.0 t.1 k.3 in
    let key = raw_takes 12 bytes k.0 k.1 (lift_ok fault_of_key (raw_at 12 bytes) k.0 k.1 k.2) in
    let u = then_ok (if_vacant (slot slots t.0) (value_at (limit_at layout t.0)) t.1)
    (λ value. gives (slice_set slots t.0 (Some value))) out rest t.3 in
    let free = vacant_ok (slot slots t.0) (value_at (limit_at layout t.0)) t.1 u.0 u.1 u.2 in
    let value = value_takes (limit_at layout t.0) t.1 u.0 u.1 free.1 in
    let stored = slice_set slots t.0 (Some u.0) in
    pair_made layout slots bytes key.text k.1 t.1 value.text u.1 rest k.0 u.0 t.0 out key.is.1 key.parts known.0 free.0 value.is
    known.1 value.parts (read_rest stored out u.1 rest u.3) (sym (read_value stored out u.1 rest u.3))

record PairsTaken (layout : Layout) (n : ℕ) (slots : Slots) (bytes : List ℕ) (out : Slots) (rest : List ℕ) : Type 0 where
  text : List ℕ
  pairs : Pairs
  count : length pairs ≡ n
  each : PairTexts layout text pairs
  parts : bytes ≡ text ++ rest
  fills : Fills layout slots pairs out

pairs_takes : (layout : Layout) (n : ℕ) (slots : Slots) (bytes : List ℕ) (out : Slots) (rest : List ℕ)
    → pairs_at layout n slots bytes ≡ read out rest
    → PairsTaken layout n slots bytes out rest
unfolding pairs_at
pairs_takes layout zero slots bytes out rest e = record {
  text = [];
  pairs = [];
  count = refl;
  each = refl;
  parts = read_rest slots out bytes rest e;
  fills = sym (read_value slots out bytes rest e);
}
pairs_takes layout (suc n) slots bytes out rest e =
    let t = then_ok (pair_at layout slots bytes) (pairs_at layout n) out rest e in
    let one = pair_takes layout slots bytes t.0 t.1 t.2 in
    let more = pairs_takes layout n t.0 t.1 out rest t.3 in
    record {
      text = one.text ++ more.text;
      pairs = one.pair ∷ more.pairs;
      count = ap suc more.count;
      each = (one.text, more.text, one.is, more.each, refl);
      parts = parts_joined one.text more.text rest one.parts more.parts;
      fills = (one.place, one.at, one.vacant, subst (λ s. Fills layout s more.pairs out) one.filled more.fills);
    }

-- a map that was read
pub map_takes : (layout : Layout) (bytes : List ℕ) (slots : Slots) (rest : List ℕ) → IsLegalLayout layout
    → map_at layout bytes ≡ read slots rest
    → (b : List ℕ) × (pairs : Pairs) × MapText layout b pairs × (bytes ≡ b ++ rest) × HoldsSlots layout pairs slots
unfolding map_at
map_takes layout bytes slots rest legal e =
    let t = then_ok (lift fault_of_pack (count_at (length layout)) bytes) (λ n. pairs_at layout n no_slots) slots rest e in
    let count = count_takes (length layout) bytes t.0 t.1 (lift_ok fault_of_pack (count_at (length layout) bytes) t.0 t.1 t.2) in
    let more = pairs_takes layout t.0 no_slots t.1 slots rest t.3 in (
      count.text ++ more.text,
      more.pairs,
      record {
        count_text = count.text;
        pairs_text = more.text;
        count = rw more.count count.is.1;
        each = more.each;
        distinct = fills_distinct layout no_slots more.pairs slots legal.few more.fills;
        text = refl;
      },
      parts_joined count.text more.text rest count.parts more.parts,
      holds_from_fills layout more.pairs slots legal more.fills,
    )

pair_again : (layout : Layout) (slots : Slots) (b rest : List ℕ) (pair : List ℕ × Spelled) (place : ℕ) (text : PairText layout b pair)
    → place_of layout pair.0 ≡ Some place → limit_at layout place ≡ text.limit → length pair.0 ≤ 12 → slot slots place ≡ None
    → pair_at layout slots (b ++ rest) ≡ read (slice_set slots place (Some pair.1)) rest
unfolding pair_at key_at
pair_again layout slots b rest pair place text at limit_is short vacant =
    let key = raw_again 12 text.key_text (text.value_text ++ rest) pair.0 short text.key in
    let value = value_again text.limit text.value_text rest pair.1 text.value in
    rw (text.text, append_assoc text.key_text text.value_text rest, key, at, vacant, limit_is, value) refl

pairs_again : (layout : Layout) (slots : Slots) (b rest : List ℕ) (pairs : Pairs) (out : Slots) → IsLegalLayout layout
    → PairTexts layout b pairs → Fills layout slots pairs out
    → pairs_at layout (length pairs) slots (b ++ rest) ≡ read out rest
unfolding pairs_at
pairs_again layout slots b rest [] out legal texts fills = rw (texts, fills) refl
pairs_again layout slots b rest (pair ∷ pairs) out legal texts fills =
    let text : PairText layout texts.0 pair = texts.2 in
    let key = found layout pair.0 text.limit text.in_layout in
    let first = first_from_place layout pair.0 fills.0 fills.1 in
    let here : key.place ≡ fills.0 = some_is key.place fills.0 (sym (place_from_first layout pair.0 key.place key.first) ∙ fills.1) in
    let short = subst (λ k. length k ≤ 12) first.here (all_at (λ k. length k ≤ 12) layout fills.0 legal.short first.inside) in
    let one = pair_again layout slots texts.0 (texts.1 ++ rest) pair fills.0 text fills.1
    (ap (limit_at layout) (sym here) ∙ key.limit_is) short fills.2 in
    rw (texts.4, append_assoc texts.0 texts.1 rest, one)
    (pairs_again layout (slice_set slots fills.0 (Some pair.1)) texts.1 rest pairs out legal texts.3 fills.3)

known_key : (layout : Layout) (b : List ℕ) (pairs : Pairs) → PairTexts layout b pairs → (q : List ℕ) → list_any (bytes_eq q)
    (keys_of pairs) ≡ true → IsSome (of_key q layout)
known_key layout b [] texts q e = absurd (false≢true e)
known_key layout b (pair ∷ pairs) texts q e = by (bytes_eq q pair.0) refl e (known_key layout texts.1 pairs texts.3 q)
  where
    by : (t : Bool) → bytes_eq q pair.0 ≡ t → (t || list_any (bytes_eq q) (keys_of pairs)) ≡ true →
        (list_any (bytes_eq q) (keys_of pairs) ≡ true → IsSome (of_key q layout)) → IsSome (of_key q layout)
    by true t e later =
        let text : PairText layout texts.0 pair = texts.2 in
        let is = ap (λ (k : List ℕ). of_key k layout) (same_key q pair.0 t) ∙ text.in_layout in
        rw is refl
    by false t e later = later e

-- a map has no more pairs than the layout has keys
pub pairs_few : (layout : Layout) (b : List ℕ) (pairs : Pairs) → MapText layout b pairs → length pairs ≤ length layout
pairs_few layout b pairs text =
    let few = length-le_from_keys nat_list_eq_equiv (keys_of pairs) layout text.distinct
    (known_key layout text.pairs_text pairs text.each) in
    let keys = length-keys_of pairs in
    omega arith

-- the text of a map is read, whatever follows it
pub map_again : (layout : Layout) (b : List ℕ) (pairs : Pairs) (rest : List ℕ) → IsLegalLayout layout → MapText layout b pairs
    → (slots : Slots) × (map_at layout (b ++ rest) ≡ read slots rest) × HoldsSlots layout pairs slots
unfolding map_at
map_again layout b pairs rest legal text =
    let fills = fills_from layout no_slots text.pairs_text pairs text.each text.distinct (all_vacant layout (keys_of pairs)) in
    let count = count_again (length layout) text.count_text (text.pairs_text ++ rest) (length pairs)
    (pairs_few layout b pairs text) text.count in
    let more = pairs_again layout no_slots text.pairs_text rest pairs fills.0 legal text.each fills.1 in (
      fills.0,
      rw (text.text, append_assoc text.count_text text.pairs_text rest, count) more,
      holds_from_fills layout pairs fills.0 legal fills.1,
    )
