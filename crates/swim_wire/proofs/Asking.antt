-- Where a read of a message requests memory.
use Rattle.std.proofs.Common.{◌≡◌, ◌≢◌, inl, inr, ℕ, zero, suc, ◌-◌, ◌<◌, ◌≤◌, Bool, true, false, cond, List, [], ◌∷◌}
use Rattle.std.proofs.Common.{◌++◌, length, Option, Some, None, Result, Ok, Err, refl, sym, ap, subst, ◌∙◌}
use Rattle.std.proofs.Common.{append_assoc, append-nil, arith}
use Rattle.std.proofs.lemmas.Result.{err_from_is_err_and}
use Rattle.std.specs.Prelude.{IfSome, IsErrAnd, slice_index_or, ⊤}
use Rattle.std.specs.Str.{bytes_eq}
use Rattle.swim_claim.specs.declared.claim.Claim.{Claim}
use Rattle.swim_pack.specs.Ends.{Source, ConsumesKnownText, Begins}
use Rattle.swim_pack.specs.Composing.{Cause, Answers, ReadsAs, same, some_or, lift}
use Rattle.swim_pack.specs.Composing as composing
use Rattle.swim_pack.specs.Spelling.{RawLen}
use Rattle.swim_pack.specs.Reading.{cause_of, next_byte, raw_at, count_at}
use Rattle.swim_pack.proofs.Numbers.{raw_takes, count_takes}
use Rattle.swim_wire.specs.declared.fault.WireFault.{WireFault}
use Rattle.swim_wire.specs.declared.fault.WireFault.TheVariants.{UnknownKey}
use Rattle.swim_wire.specs.declared.layout.Field.{Field}
use Rattle.swim_wire.specs.declared.layout.Key.TheVariants as keys
use Rattle.swim_wire.specs.declared.layout.Key.{Key}
use Rattle.swim_wire.specs.declared.layout.Limit.{Limit}
use Rattle.swim_wire.specs.declared.layout.Limit.TheVariants as limits
use Rattle.swim_wire.specs.Asking.{ValueAsks, PairAsks, PairsAsk, MapAsks, PacketAsks}
use Rattle.swim_wire.specs.Fault.{fault_of_pack, fault_of_key}
use Rattle.swim_wire.specs.Keys.{key_text}
use Rattle.swim_wire.specs.Layout.{Layout, Spelled, Spells, Pairs, PairText, PairTexts, MapText, of_key, raw_or_empty}
use Rattle.swim_wire.specs.Layout.{raw_of, alive_layout, accusation_layout, state_layout}
use Rattle.swim_wire.specs.Layout.Spelled.{number, raw, flag}
use Rattle.swim_wire.specs.Reading.{wire_cause, Slots, slot, place_of, limit_at, key_at, pair_at, map_at, raw_in}
use Rattle.swim_wire.specs.Packet.{PacketValue}
use Rattle.swim_wire.specs.Slots.{layout_of}
use Rattle.swim_wire.specs.Texts.{PacketText, StateText}
use Rattle.swim_wire.specs.Texts.PacketText.{alive, suspect, leave, confirm}
use Rattle.swim_wire.proofs.Keys.{IsLegalLayout, key_in, first_from_place, limit_from_first, some_is}
use Rattle.swim_wire.proofs.Maps.{pair_takes, map_takes, pairs_few}
use Rattle.swim_wire.proofs.PairReads.{limit_is}
use Rattle.swim_wire.proofs.Readings.{read, read_value, read_rest, parts_to, then_ok, lift_ok, some_ok}

abbrev refused : (X : Type 0) → WireFault → Result X WireFault
refused X fault = Err fault

-- a fault is the same whatever the result would have been without it
pub same_fault : {X Y : Type 0} (fault wanted : WireFault) → refused X fault ≡ refused X wanted → refused Y fault ≡ refused Y wanted
same_fault {X} {Y} fault wanted is =
    let same : fault ≡ wanted = cc in
    ap (refused Y) same

-- the exit of a `?`
pub fault_exits : {X Y P : Type 0} {error wanted : WireFault} (r : Result Y WireFault) → IsErrAnd r (λ y. y ≡ error)
    → (refused X error ≡ refused X wanted → P) → r ≡ refused Y wanted → P
fault_exits r exits h is =
    let p = err_from_is_err_and r exits in
    h (same_fault _ _ (ap (refused _) (sym p.2) ∙ sym p.1 ∙ is))

-- if the remaining bytes request memory, so do the original ones
pub Reads-asks : {E X V : Type 0} {cause : E → Cause} {view : X
    → V} {reading : composing.Reading E V} {a b : Source} {x : X} (P Q : List ℕ → Type 0)
    → ((bytes rest : List ℕ) → reading bytes ≡ Ok (view x, rest) → Q rest → P bytes)
    → ReadsAs cause view reading a b (Ok x) → IfSome b.coming Q → IfSome a.coming P
Reads-asks {E} {X} {V} {cause} {view} {reading} {a} {b} {x} P Q step h asks = by a.coming b.coming h.answer asks
  where
    by : (old new : Option (List ℕ)) → Answers {E = E} {X = X} {V = V} cause view reading old new (Ok x) → IfSome new Q → IfSome old P
    by None new e asks = tt
    by (Some bytes) None e asks = absurd e
    by (Some bytes) (Some rest) e asks = step bytes rest e asks

-- ---- a value, a pair, a map

pub raw_asks : (limit : ℕ) (a b : Option (List ℕ))
    → ConsumesKnownText a b (λ t. (n : ℕ) × (n ≤ limit) × RawLen t n)
    → IfSome a (ValueAsks (limits.Raw limit))
raw_asks limit None b h = tt
raw_asks limit (Some bytes) None h = absurd h
raw_asks limit (Some bytes) (Some rest) h = (h.0, rest, h.1.0, h.1.2, h.1.1, h.2)

key_step : (layout : Layout) (place : ℕ) (bytes rest : List ℕ) → key_at layout bytes ≡ read place rest
    → ValueAsks (limit_at layout place) rest → PairAsks layout bytes
unfolding key_at
key_step layout place bytes rest e asks =
    let k = then_ok (lift fault_of_key (raw_at 12) bytes) (λ key. some_or UnknownKey (place_of layout key)) place rest e in
    let known = some_ok UnknownKey (place_of layout k.0) k.1 place rest k.3 in
    let key = raw_takes 12 bytes k.0 k.1 (lift_ok fault_of_key (raw_at 12 bytes) k.0 k.1 k.2) in
    record {
      limit = limit_at layout place;
      name = k.0;
      in_layout = limit_from_first layout k.0 place (first_from_place layout k.0 place known.0);
      key_text = key.text;
      rest = rest;
      key = key.is.1;
      value = asks;
      text = parts_to key.text key.parts known.1;
    }

-- a key, then a value that requests memory
pub pair_asks : {a b : Source} (fields : List Field) (place : ℕ) (d : Field) → place < length fields
    → ReadsAs {X = ℕ} wire_cause same (key_at (layout_of fields)) a b (Ok place)
    → IfSome b.coming (ValueAsks (let field = slice_index_or fields place d in field.limit))
    → IfSome a.coming (PairAsks (layout_of fields))
pair_asks {b} fields place d within h asks =
    let there : IfSome b.coming (ValueAsks (limit_at (layout_of fields) place)) = rw (limit_is fields place d within) asks in
    Reads-asks (PairAsks (layout_of fields)) (ValueAsks (limit_at (layout_of fields) place)) (key_step (layout_of fields) place) h there

-- the first of at least one pair requests memory
pub first_asks : (layout : Layout) (left : ℕ) (known : Option (List ℕ)) → 0 < left
    → IfSome known (PairAsks layout) → IfSome known (PairsAsk layout left)
first_asks layout zero known pos h = absurd (omega arith)
first_asks layout (suc left) None pos h = tt
first_asks layout (suc left) (Some bytes) pos h = inl h

pair_step : (layout : Layout) (left : ℕ) (slots out : Slots) (bytes rest : List ℕ) → 0 < left → pair_at layout slots bytes ≡ read out rest
    → PairsAsk layout (left - 1) rest → PairsAsk layout left bytes
pair_step layout zero slots out bytes rest pos e asks = absurd (omega arith)
pair_step layout (suc left) slots out bytes rest pos e asks =
    let one : suc left - 1 ≡ left = omega arith in
    let t = pair_takes layout slots bytes out rest e in
    inr (t.text, rest, t.pair, t.is, subst (λ (n : ℕ). PairsAsk layout n rest) one asks, t.parts)

-- one after the first requests memory
pub later_asks : {X : Type 0} {view : X → Slots} {x : X} {a b : Source} (layout : Layout) (left : ℕ) (slots : Slots) → 0 < left
    → ReadsAs wire_cause view (pair_at layout slots) a b (Ok x)
    → IfSome b.coming (PairsAsk layout (left - 1)) → IfSome a.coming (PairsAsk layout left)
later_asks {view} {x} layout left slots pos h asks =
    Reads-asks (PairsAsk layout left) (PairsAsk layout (left - 1))
    (λ bytes rest e. pair_step layout left slots (view x) bytes rest pos e) h asks

count_step : (layout : Layout) (max n : ℕ) → length layout ≡ max → (bytes rest : List ℕ)
    → count_at max bytes ≡ Ok (n, rest) → PairsAsk layout n rest
    → MapAsks layout bytes
count_step layout max n same bytes rest e asks =
    let t = count_takes max bytes n rest e in
    let few = t.is.0 in
    record { n = n; few = omega (arith, few, same); count_text = t.text; rest = rest; count = t.is.1; pairs = asks; text = t.parts }

-- one of the pairs of a map requests memory
pub map_asks : {a b : Source} {n : ℕ} (layout : Layout) (max : ℕ) → length layout ≡ max
    → ReadsAs {X = ℕ} cause_of same (count_at max) a b (Ok n) → IfSome b.coming (PairsAsk layout n) → IfSome a.coming (MapAsks layout)
map_asks {n} layout max is h asks = Reads-asks (MapAsks layout) (PairsAsk layout n) (count_step layout max n is) h asks

-- ---- texts that request memory

spelled_asks : (limit : Limit) (b rest s : List ℕ) → Spells limit b (raw s) → ValueAsks limit (b ++ rest)
spelled_asks (limits.Number max) b rest s is = absurd is
spelled_asks (limits.Raw limit) b rest s is =
    (is.0.head, s ++ rest, length s, is.0.len, is.1, ap (λ (t : List ℕ). t ++ rest) is.0.text ∙ append_assoc is.0.head s rest)
spelled_asks limits.Flag b rest s is = absurd is

text_asks : (layout : Layout) (b rest s : List ℕ) (pair : List ℕ × Spelled) → pair.1 ≡ raw s
    → PairText layout b pair → PairAsks layout (b ++ rest)
text_asks layout b rest s pair is text = record {
  limit = text.limit;
  name = pair.0;
  in_layout = text.in_layout;
  key_text = text.key_text;
  rest = text.value_text ++ rest;
  key = text.key;
  value = spelled_asks text.limit text.value_text rest s (subst (λ v. Spells text.limit text.value_text v) is text.value);
  text = ap (λ (t : List ℕ). t ++ rest) text.text ∙ append_assoc text.key_text text.value_text rest;
}

no_value : {A : Type 0} (x : A) → None ≡ Some x → ⊥
no_value x e = cc

texts_ask : (layout : Layout) (b rest key s : List ℕ) (pairs : Pairs) → PairTexts layout b pairs → of_key key pairs ≡ Some (raw s)
    → PairsAsk layout (length pairs) (b ++ rest)
texts_ask layout b rest key s [] texts e = absurd (no_value (raw s) e)
texts_ask layout b rest key s (pair ∷ pairs) texts e = by (bytes_eq key pair.0) e (texts_ask layout texts.1 rest key s pairs texts.3)
  where
    whole : b ++ rest ≡ texts.0 ++ (texts.1 ++ rest)
    whole = ap (λ (t : List ℕ). t ++ rest) texts.4 ∙ append_assoc texts.0 texts.1 rest

    by : (t : Bool) → cond t (Some pair.1) (of_key key pairs) ≡ Some (raw s) → (of_key key pairs ≡ Some (raw s) → PairsAsk layout
        (length pairs) (texts.1 ++ rest))
        → PairsAsk layout (length (pair ∷ pairs)) (b ++ rest)
    by true e later =
        inl (subst (PairAsks layout) (sym whole) (text_asks layout texts.0 (texts.1 ++ rest) s pair (some_is pair.1 (raw s) e) texts.2))
    by false e later = inr (texts.0, texts.1 ++ rest, pair, texts.2, later e, whole)

-- a map with a value of text or bytes, whatever follows it
pub MapText-asks : (layout : Layout) (b rest key s : List ℕ) (pairs : Pairs) → MapText layout b pairs → of_key key pairs ≡ Some (raw s)
    → MapAsks layout (b ++ rest)
MapText-asks layout b rest key s pairs text e = record {
  n = length pairs;
  few = pairs_few layout b pairs text;
  count_text = text.count_text;
  rest = text.pairs_text ++ rest;
  count = text.count;
  pairs = texts_ask layout text.pairs_text rest key s pairs text.each e;
  text = ap (λ (t : List ℕ). t ++ rest) text.text ∙ append_assoc text.count_text text.pairs_text rest;
}

-- there is a value of text or bytes that is not empty
raw_there : (o : Option Spelled) → raw_or_empty o ≢ [] → (s : List ℕ) × (o ≡ Some (raw s))
raw_there None some = absurd (some refl)
raw_there (Some (number v)) some = absurd (some refl)
raw_there (Some (raw s)) some = (s, refl)
raw_there (Some (flag f)) some = absurd (some refl)

-- so does one with a non-empty value
slot_asks : (layout : Layout) (place : ℕ) (bytes rest more : List ℕ) (slots : Slots) → IsLegalLayout layout → place < length layout
    → map_at layout bytes ≡ read slots rest → raw_in slots place ≢ [] → MapAsks layout (bytes ++ more)
slot_asks layout place bytes rest more slots legal inside e some =
    let t = map_takes layout bytes slots rest legal e in
    let there = raw_there (slot slots place) some in
    let asks = MapText-asks layout t.0 (rest ++ more) (key_in layout place) there.0 t.1 t.2 (sym (t.4 place inside) ∙ there.1) in
    subst (MapAsks layout) (sym (ap (λ (h : List ℕ). h ++ more) t.3 ∙ append_assoc t.0 rest more)) asks

-- a whole map
pub body_asks : (layout : Layout) (place : ℕ) (body rest : List ℕ) (slots : Slots) → IsLegalLayout layout → place < length layout
    → map_at layout body ≡ read slots rest → raw_in slots place ≢ [] → MapAsks layout body
body_asks layout place body rest slots legal inside e some =
    subst (MapAsks layout) (append-nil body) (slot_asks layout place body rest [] slots legal inside e some)

-- a map at hand
pub hand_asks : (layout : Layout) (place : ℕ) (hand rest : List ℕ) (slots : Slots) (known : Option (List ℕ)) → IsLegalLayout layout
    → place < length layout → map_at layout hand ≡ read slots rest → raw_in slots place ≢ []
    → Begins known hand → IfSome known (MapAsks layout)
hand_asks layout place hand rest slots None legal inside e some begins = tt
hand_asks layout place hand rest slots (Some bytes) legal inside e some begins =
    subst (MapAsks layout) (sym begins.1) (slot_asks layout place hand rest begins.0 slots legal inside e some)

always : (known : Option (List ℕ)) → IfSome known (λ bytes. ⊤)
always None = tt
always (Some bytes) = tt

-- a map that was read
pub read_asks : {X : Type 0} {view : X → Slots} {x : X} {a b : Source} (layout : Layout) (place : ℕ)
    → IsLegalLayout layout → place < length layout
    → ReadsAs wire_cause view (map_at layout) a b (Ok x) → raw_in (view x) place ≢ [] → IfSome a.coming (MapAsks layout)
read_asks {view} {x} {b} layout place legal inside h some =
    Reads-asks (MapAsks layout) (λ bytes. ⊤)
    (λ bytes rest e _. body_asks layout place bytes rest (view x) legal inside e some) h
    (always b.coming)

-- ---- packets

pub packet_asks : (bytes body : List ℕ) (first : ℕ) → bytes ≡ first ∷ body → PacketAsks (first ∷ body) → PacketAsks bytes
packet_asks bytes body first is asks = subst PacketAsks (sym is) asks

type_step : (bytes rest : List ℕ) (found : ℕ) → lift fault_of_pack next_byte bytes ≡ read found rest → bytes ≡ found ∷ rest
type_step [] rest found e = absurd cc
type_step (first ∷ bytes) rest found e =
    ap (λ (n : ℕ). n ∷ bytes) (read_value first found bytes rest e) ∙ ap (λ (b : List ℕ). found ∷ b) (read_rest first found bytes rest e)

-- after the type byte
pub type_asks : {a b : Source} (found : ℕ) (Q : List ℕ → Type 0) → ((rest : List ℕ) → Q rest → PacketAsks (found ∷ rest))
    → ReadsAs {X = ℕ} wire_cause same (lift fault_of_pack next_byte) a b (Ok found) → IfSome b.coming Q → IfSome a.coming PacketAsks
type_asks found Q more h asks =
    Reads-asks PacketAsks Q (λ bytes rest e q. packet_asks bytes rest found (type_step bytes rest found e) (more rest q)) h asks

named_asks : (layout : Layout) (m : List ℕ) (key : Key) (pairs : Pairs) → MapText layout m pairs → raw_of key pairs ≢ [] → MapAsks layout m
named_asks layout m key pairs text named =
    let there = raw_there (of_key (key_text key) pairs) named in
    subst (MapAsks layout) (append-nil m) (MapText-asks layout m [] (key_text key) there.0 pairs text there.1)

-- each packet requests memory, since it has a name
pub PacketText-asks : (b : List ℕ) (p : PacketValue) → PacketText b p → PacketAsks b
PacketText-asks b p (alive m pairs is text named details made) =
    packet_asks b m 4 is (inl (refl, named_asks alive_layout m keys.Node pairs text named))
PacketText-asks b p (suspect m pairs is text named made) =
    packet_asks b m 3 is (inr (inl refl, named_asks accusation_layout m keys.Node pairs text named))
PacketText-asks b p (leave m pairs is text named own made) =
    packet_asks b m 5 is (inr (inr refl, named_asks accusation_layout m keys.Node pairs text named))
PacketText-asks b p (confirm m pairs is text named other made) =
    packet_asks b m 5 is (inr (inr refl, named_asks accusation_layout m keys.Node pairs text named))

-- so does each state record
pub StateText-asks : (b rest : List ℕ) (c : Claim) → StateText b c → MapAsks state_layout (b ++ rest)
StateText-asks b rest c text =
    let there = raw_there (of_key (key_text keys.Name) text.pairs) text.name in
    MapText-asks state_layout b rest (key_text keys.Name) there.0 text.pairs text.text there.1
