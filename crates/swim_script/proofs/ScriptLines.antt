-- The words of one line of a script, and what they say.
use Rattle.std.proofs.Common.{◌≡◌, ◌≢◌, ℕ, ◌<◌, ◌⊎◌, inl, inr, Bool, true, false, List, [], ◌∷◌, Ok, length, map}
use Rattle.std.proofs.Common.{drop, get_or, codes, Bor, refl, sym, ap, subst, ◌∙◌, arith}
use Rattle.std.proofs.lemmas.Bool.{false≢true}
use Rattle.std.proofs.lemmas.Slice.Eq.{bytes_eq-Decides}
use Rattle.std.specs.Str.{bytes_eq}
use Rattle.hex.specs.Hex.{decode_of}
use Rattle.swim_wire.specs.declared.fault.WireFault.{WireFault}
use Rattle.swim_wire.specs.declared.fault.WireFault.TheVariants as wire
use Rattle.swim_program.specs.Report.{what_of}
use Rattle.swim_script.specs.Refusals.{IsOfReading}
use Rattle.swim_sync.specs.declared.event.Event.{Event}
use Rattle.swim_sync.specs.declared.event.Event.TheVariants.{Exchange, Half, Refute}
use Rattle.swim_wire.specs.Packet.{PacketValue}
use Rattle.swim_wire.specs.Texts.{DatagramText}
use Rattle.swim_script.specs.declared.keyword.Keyword.{Keyword}
use Rattle.swim_script.specs.declared.keyword.Keyword.TheVariants as key
use Rattle.swim_script.specs.Script.{Start, Decimal, HexBytes, NodeNumber, SaysNode, NodeFields, NodeWords}
use Rattle.swim_script.specs.Script.{HearsBytes, EventWords, LevelWords}
use Rattle.swim_script.specs.Script.HearsBytes.{packet, compound}
use Rattle.swim_script.specs.Script.EventWords.{hear, exchange, half, refute}
use Rattle.swim_script.specs.ScriptReading.{OneNumber, SpellsNothing, TwoNumbers, word_of}
use Rattle.swim_script.proofs.Packets.{one_packet}

-- ---- fields by their places

-- there are two words and no others
pub two_words : (fields : List (Bor (List ℕ))) (d : Bor (List ℕ)) → length fields ≡ 2
    → map (λ w. w.now) fields ≡ (get_or fields 0 d).now ∷ (get_or fields 1 d).now ∷ []
two_words [] d l = absurd (omega (arith, l))
two_words (a ∷ []) d l = absurd (omega (arith, l))
two_words (a ∷ b ∷ []) d l = refl
two_words (a ∷ b ∷ e ∷ more) d l = absurd (omega (arith, l))

-- there are six words and no others
pub six_words : (fields : List (Bor (List ℕ))) (d : Bor (List ℕ)) → length fields ≡ 6
    → map (λ w. w.now) fields ≡ (get_or fields 0 d).now ∷ (get_or fields 1 d).now ∷ (get_or fields 2 d).now
    ∷ (get_or fields 3 d).now ∷ (get_or fields 4 d).now ∷ (get_or fields 5 d).now ∷ []
six_words [] d l = absurd (omega (arith, l))
six_words (a ∷ []) d l = absurd (omega (arith, l))
six_words (a ∷ b ∷ []) d l = absurd (omega (arith, l))
six_words (a ∷ b ∷ e ∷ []) d l = absurd (omega (arith, l))
six_words (a ∷ b ∷ e ∷ f ∷ []) d l = absurd (omega (arith, l))
six_words (a ∷ b ∷ e ∷ f ∷ g ∷ []) d l = absurd (omega (arith, l))
six_words (a ∷ b ∷ e ∷ f ∷ g ∷ h ∷ []) d l = refl
six_words (a ∷ b ∷ e ∷ f ∷ g ∷ h ∷ i ∷ more) d l = absurd (omega (arith, l))

-- what the six words after `node` say
pub node_told : (fields : List (List ℕ)) (name addr port meta vsn inc : List ℕ) (start : Start)
    → fields ≡ name ∷ addr ∷ port ∷ meta ∷ vsn ∷ inc ∷ [] → NodeWords (codes "node" ∷ fields) start
    → NodeFields name addr port meta vsn inc start
node_told fields name addr port meta vsn inc start words own =
    let P : List (List ℕ) → Type 0 =
    λ line. NodeFields (get_or line 1 []) (get_or line 2 []) (get_or line 3 []) (get_or line 4 [])
    (get_or line 5 []) (get_or line 6 []) start in
    subst P (sym own.6 ∙ ap (λ t. codes "node" ∷ t) words) own.7

-- ---- numbers and bytes have one value

pub one_decimal : (most : ℕ) (word : List ℕ) (m n : ℕ) → Decimal most word m → Decimal most word n → m ≡ n
one_decimal most word m n d e = d.value ∙ sym e.value

pub one_bytes : (word bytes others : List ℕ) → HexBytes word bytes → HexBytes word others → bytes ≡ others
one_bytes word bytes others (inl a) (inl b) = a.1 ∙ sym b.1
one_bytes word bytes others (inl a) (inr b) = let bad : decode_of (codes "-") ≡ Ok others = ap decode_of (sym a.0) ∙ b.1 in absurd cc
one_bytes word bytes others (inr a) (inl b) = let bad : decode_of (codes "-") ≡ Ok bytes = ap decode_of (sym b.0) ∙ a.1 in absurd cc
one_bytes word bytes others (inr a) (inr b) = let same : Ok bytes ≡ Ok others = sym a.1 ∙ b.1 in cc

-- ---- what is heard

-- what is not a datagram is not heard
pub not_heard : (k : ℕ) (bytes : List ℕ) → ((packets : List PacketValue) → ¬ DatagramText bytes packets) → (event : Event)
    → ¬ HearsBytes k bytes event
not_heard k bytes none event (packet p t e) = none (p ∷ []) (one_packet bytes p t)
not_heard k bytes none event (compound body packets b t e) = none packets t

-- ---- a node

-- its details have the parts that were read
pub details_told : (name addr port meta vsn inc : List ℕ) (start : Start) (a : List ℕ) (p : ℕ) (m v : List ℕ)
    → SaysNode name addr port meta vsn inc start
    → HexBytes addr a → Decimal 65535 port p → HexBytes meta m → HexBytes vsn v
    → start.details ≡ record { addr = a; port = p; meta = m; vsn = v }
details_told name addr port meta vsn inc start a p m v own one two three four =
    let same_addr : start.details.addr ≡ a = one_bytes addr start.details.addr a own.addr one in
    let same_port : start.details.port ≡ p = one_decimal 65535 port start.details.port p own.port two in
    let same_meta : start.details.meta ≡ m = one_bytes meta start.details.meta m own.meta three in
    let same_vsn : start.details.vsn ≡ v = one_bytes vsn start.details.vsn v own.vsn four in
    rw (← same_addr, ← same_port, ← same_meta, ← same_vsn)

-- ---- an event

-- words that differ byte by byte are not the same
differ : (a b : List ℕ) → bytes_eq a b ≡ false → a ≢ b
differ a b apart same = false≢true (sym apart ∙ (bytes_eq-Decides a b).1 same)

-- the first words of two equal lines
pub first_word : (a b : List ℕ) (xs ys : List (List ℕ)) → a ∷ xs ≡ b ∷ ys → a ≡ b
first_word a b xs ys e = ap (λ l. get_or l 0 []) e

-- lines whose first words differ are not the same
pub other_line : (a b : List ℕ) (xs ys : List (List ℕ)) → bytes_eq a b ≡ false → a ∷ xs ≢ b ∷ ys
other_line a b xs ys apart e = differ a b apart (first_word a b xs ys e)

-- the words after them
later_words : (a b : List ℕ) (xs ys : List (List ℕ)) → a ∷ xs ≡ b ∷ ys → xs ≡ ys
later_words a b xs ys e = ap (drop 1) e

-- what the words after `hear` say
pub record IsHeard (fields : List (List ℕ)) (event : Event) : Type 0 where
  pub node : List ℕ
  pub datagram : List ℕ
  pub k : ℕ
  pub bytes : List ℕ
  pub words : fields ≡ node ∷ datagram ∷ []
  pub number : NodeNumber node k
  pub hex : HexBytes datagram bytes
  pub hears : HearsBytes k bytes event

pub heard_by_words : (fields : List (List ℕ)) (event : Event) → EventWords (codes "hear" ∷ fields) event → IsHeard fields event
heard_by_words fields event (hear node datagram k bytes e n h b) =
    record {
      node = node;
      datagram = datagram;
      k = k;
      bytes = bytes;
      words = later_words (codes "hear") (codes "hear") fields (node ∷ datagram ∷ []) e;
      number = n;
      hex = h;
      hears = b;
    }
heard_by_words fields event (exchange first second j k e m n is) = absurd
    (other_line (codes "hear") (codes "exchange") fields (first ∷ second ∷ []) refl e)
heard_by_words fields event (half first second j k e m n is) = absurd
    (other_line (codes "hear") (codes "half") fields (first ∷ second ∷ []) refl e)
heard_by_words fields event (refute node k e n is) = absurd (other_line (codes "hear") (codes "refute") fields (node ∷ []) refl e)

pub exchanged_by_words : (fields : List (List ℕ)) (event : Event)
    → EventWords (codes "exchange" ∷ fields) event → (j k : ℕ) × TwoNumbers fields j k
exchanged_by_words fields event (hear node datagram k bytes e n h b) =
    absurd (other_line (codes "exchange") (codes "hear") fields (node ∷ datagram ∷ []) refl e)
exchanged_by_words fields event (exchange first second j k e m n is) =
    (j, k, (first, second, later_words (codes "exchange") (codes "exchange") fields (first ∷ second ∷ []) e, m, n))
exchanged_by_words fields event (half first second j k e m n is) = absurd
    (other_line (codes "exchange") (codes "half") fields (first ∷ second ∷ []) refl e)
exchanged_by_words fields event (refute node k e n is) = absurd (other_line (codes "exchange") (codes "refute") fields (node ∷ []) refl e)

pub half_by_words : (fields : List (List ℕ)) (event : Event) → EventWords (codes "half" ∷ fields) event → (j k : ℕ) × TwoNumbers fields j k
half_by_words fields event (hear node datagram k bytes e n h b) = absurd
    (other_line (codes "half") (codes "hear") fields (node ∷ datagram ∷ []) refl e)
half_by_words fields event (exchange first second j k e m n is) = absurd
    (other_line (codes "half") (codes "exchange") fields (first ∷ second ∷ []) refl e)
half_by_words fields event (half first second j k e m n is) =
    (j, k, (first, second, later_words (codes "half") (codes "half") fields (first ∷ second ∷ []) e, m, n))
half_by_words fields event (refute node k e n is) = absurd (other_line (codes "half") (codes "refute") fields (node ∷ []) refl e)

pub refuted_by_words : (fields : List (List ℕ)) (event : Event) → EventWords (codes "refute" ∷ fields) event → (k : ℕ) × OneNumber fields k
refuted_by_words fields event (hear node datagram k bytes e n h b) = absurd
    (other_line (codes "refute") (codes "hear") fields (node ∷ datagram ∷ []) refl e)
refuted_by_words fields event (exchange first second j k e m n is) = absurd
    (other_line (codes "refute") (codes "exchange") fields (first ∷ second ∷ []) refl e)
refuted_by_words fields event (half first second j k e m n is) = absurd
    (other_line (codes "refute") (codes "half") fields (first ∷ second ∷ []) refl e)
refuted_by_words fields event (refute node k e n is) = (k, (node, later_words (codes "refute") (codes "refute") fields (node ∷ []) e, n))

-- the first word of an event is one of four
pub event_first : (word : List ℕ) (fields : List (List ℕ)) (event : Event) → EventWords (word ∷ fields) event
    → (word ≡ codes "hear") ⊎ ((word ≡ codes "exchange") ⊎ ((word ≡ codes "half") ⊎ (word ≡ codes "refute")))
event_first word fields event (hear node datagram k bytes e n h b) = inl (first_word word (codes "hear") fields (node ∷ datagram ∷ []) e)
event_first word fields event (exchange first second j k e m n is) = inr
    (inl (first_word word (codes "exchange") fields (first ∷ second ∷ []) e))
event_first word fields event (half first second j k e m n is) = inr
    (inr (inl (first_word word (codes "half") fields (first ∷ second ∷ []) e)))
event_first word fields event (refute node k e n is) = inr (inr (inr (first_word word (codes "refute") fields (node ∷ []) e)))

-- what the words say is heard
pub hear_told : (fields : List (Bor (List ℕ))) (d : Bor (List ℕ)) (k : ℕ) (bytes : List ℕ) (event : Event) → length fields ≡ 2
    → NodeNumber (get_or fields 0 d).now k → HexBytes (get_or fields 1 d).now bytes → HearsBytes k bytes event
    → EventWords (codes "hear" ∷ map (λ w. w.now) fields) event
hear_told fields d k bytes event l n h b =
    hear (get_or fields 0 d).now (get_or fields 1 d).now k bytes (ap (λ t. codes "hear" ∷ t) (two_words fields d l)) n h b

-- if the second word is not bytes, nothing is heard
pub no_hex : (fields : List (Bor (List ℕ))) (d : Bor (List ℕ)) (event : Event) → length fields ≡ 2
    → ((bytes : List ℕ) → ¬ HexBytes (get_or fields 1 d).now bytes) → ¬ EventWords (codes "hear" ∷ map (λ w. w.now) fields) event
no_hex fields d event l none own =
    let told = heard_by_words (map (λ w. w.now) fields) event own in
    let same : told.datagram ≡ (get_or fields 1 d).now = ap (λ t. get_or t 1 []) (sym told.words ∙ two_words fields d l) in
    none told.bytes (subst (λ w. HexBytes w told.bytes) same told.hex)

-- if the event is not that of the bytes, it is not that of the line
pub no_heard : (fields : List (Bor (List ℕ))) (d : Bor (List ℕ)) (k : ℕ) (bytes : List ℕ) (event : Event) → length fields ≡ 2
    → NodeNumber (get_or fields 0 d).now k → HexBytes (get_or fields 1 d).now bytes → (¬ HearsBytes k bytes event)
    → ¬ EventWords (codes "hear" ∷ map (λ w. w.now) fields) event
no_heard fields d k bytes event l n h none own =
    let told = heard_by_words (map (λ w. w.now) fields) event own in
    let words = sym told.words ∙ two_words fields d l in
    let number = subst (λ w. NodeNumber w told.k) (ap (λ t. get_or t 0 []) words) told.number in
    let hex = subst (λ w. HexBytes w told.bytes) (ap (λ t. get_or t 1 []) words) told.hex in
    let same_k : told.k ≡ k = one_decimal 18446744073709551615 (get_or fields 0 d).now told.k k number n in
    let same_bytes : told.bytes ≡ bytes = one_bytes (get_or fields 1 d).now told.bytes bytes hex h in
    none (subst (λ b. HearsBytes k b event) same_bytes (subst (λ n. HearsBytes n told.bytes event) same_k told.hears))

-- two numbers after `exchange`, after `half`, and one after `refute`
pub exchange_told : (fields : List (List ℕ)) (j k : ℕ) → TwoNumbers fields j k → EventWords (codes "exchange" ∷ fields) (Exchange j k)
exchange_told fields j k own = exchange own.0 own.1 j k (ap (λ t. codes "exchange" ∷ t) own.2) own.3 own.4 refl

pub half_told : (fields : List (List ℕ)) (j k : ℕ) → TwoNumbers fields j k → EventWords (codes "half" ∷ fields) (Half j k)
half_told fields j k own = half own.0 own.1 j k (ap (λ t. codes "half" ∷ t) own.2) own.3 own.4 refl

pub refute_told : (fields : List (List ℕ)) (k : ℕ) → OneNumber fields k → EventWords (codes "refute" ∷ fields) (Refute k)
refute_told fields k own = refute own.0 k (ap (λ t. codes "refute" ∷ t) own.1) own.2 refl

-- and if there are no such numbers, there is no event
pub no_exchange : (fields : List (List ℕ)) → ((j k : ℕ) → ¬ TwoNumbers fields j k) → (event : Event)
    → ¬ EventWords (codes "exchange" ∷ fields) event
no_exchange fields none event own = let told = exchanged_by_words fields event own in none told.0 told.1 told.2

pub no_half : (fields : List (List ℕ)) → ((j k : ℕ) → ¬ TwoNumbers fields j k) → (event : Event)
    → ¬ EventWords (codes "half" ∷ fields) event
no_half fields none event own = let told = half_by_words fields event own in none told.0 told.1 told.2

pub no_refute : (fields : List (List ℕ)) → ((k : ℕ) → ¬ OneNumber fields k) → (event : Event) → ¬ EventWords (codes "refute" ∷ fields) event
no_refute fields none event own = let told = refuted_by_words fields event own in none told.0 told.1

-- ---- a line that says nothing

-- no line begins with its first word
pub unknown_first : (nodes : Bool) (first : List ℕ) (fields : List (List ℕ)) → ((keyword : Keyword) → first ≢ word_of keyword)
    → SpellsNothing nodes (first ∷ fields)
unknown_first nodes first fields none = record {
  node = λ may start own. none key.Node (ap (λ l. get_or l 0 []) own.6);
  event = λ event own. elim (event_first first fields event own) [
    | inl e ↦ none key.Hear e
    | inr (inl e) ↦ none key.Exchange e
    | inr (inr (inl e)) ↦ none key.Half e
    | inr (inr (inr e)) ↦ none key.Refute e
  ];
  level = λ own. none key.Level (ap (λ l. get_or l 0 []) own);
}

-- only the first word of a node is `node`
node_word : (keyword : Keyword) → word_of keyword ≡ codes "node" → keyword ≡ key.Node
node_word key.Node e = refl
node_word key.Hear e = absurd (differ (codes "hear") (codes "node") refl e)
node_word key.Exchange e = absurd (differ (codes "exchange") (codes "node") refl e)
node_word key.Half e = absurd (differ (codes "half") (codes "node") refl e)
node_word key.Refute e = absurd (differ (codes "refute") (codes "node") refl e)
node_word key.Level e = absurd (differ (codes "level") (codes "node") refl e)

-- and only that of the levelling is `level`
level_word : (keyword : Keyword) → word_of keyword ≡ codes "level" → keyword ≡ key.Level
level_word key.Node e = absurd (differ (codes "node") (codes "level") refl e)
level_word key.Hear e = absurd (differ (codes "hear") (codes "level") refl e)
level_word key.Exchange e = absurd (differ (codes "exchange") (codes "level") refl e)
level_word key.Half e = absurd (differ (codes "half") (codes "level") refl e)
level_word key.Refute e = absurd (differ (codes "refute") (codes "level") refl e)
level_word key.Level e = refl

-- a line that is not an event, not a node that may come, and not `level` alone
pub nothing_told : (nodes : Bool) (keyword : Keyword) (fields : List (List ℕ)) → (keyword ≡ key.Node → nodes ≡ true → ⊥) →
    (keyword ≡ key.Level → 0 < length fields)
    → ((event : Event) → ¬ EventWords (word_of keyword ∷ fields) event) → SpellsNothing nodes (word_of keyword ∷ fields)
nothing_told nodes keyword fields node level none = record {
  node =
      λ may start own.
      node
      (node_word keyword (first_word (word_of keyword) (codes "node") fields
      (drop 1 (codes "node" ∷ own.0 ∷ own.1 ∷ own.2 ∷ own.3 ∷ own.4 ∷ own.5 ∷ [])) own.6))
      may;
  event = none;
  level = λ own. let some = level (level_word keyword (first_word (word_of keyword) (codes "level") fields [] own)) in
      omega (arith, some, ap length (later_words (word_of keyword) (codes "level") fields [] own));
}

-- a line that begins as a node and does not describe one
pub no_node_told : (nodes : Bool) (fields : List (List ℕ)) → ((start : Start) → ¬ NodeWords (codes "node" ∷ fields) start)
    → SpellsNothing nodes (codes "node" ∷ fields)
no_node_told nodes fields none = record {
  node = λ may. none;
  event = λ event own. elim (event_first (codes "node") fields event own) [
    | inl e ↦ differ (codes "node") (codes "hear") refl e
    | inr (inl e) ↦ differ (codes "node") (codes "exchange") refl e
    | inr (inr (inl e)) ↦ differ (codes "node") (codes "half") refl e
    | inr (inr (inr e)) ↦ differ (codes "node") (codes "refute") refl e
  ];
  level = other_line (codes "node") (codes "level") fields [] refl;
}

-- ---- no line is of two kinds

-- the first word of a line
abbrev pub first_of : List (List ℕ) → List ℕ
first_of words = get_or words 0 []

pub node_first : (words : List (List ℕ)) (start : Start) → NodeWords words start → first_of words ≡ codes "node"
node_first words start own = ap first_of own.6

pub level_first : (words : List (List ℕ)) → LevelWords words → first_of words ≡ codes "level"
level_first words own = ap first_of own

-- a line of a node is not `level`
pub node_no_level : (words : List (List ℕ)) (start : Start) → NodeWords words start → ¬ LevelWords words
node_no_level words start own level = differ (codes "node") (codes "level") refl
    (sym (node_first words start own) ∙ level_first words level)

-- a line whose first word differs from both is neither that of a node nor `level`
neither : (words : List (List ℕ)) (word : List ℕ) → first_of words ≡ word
    → bytes_eq word (codes "node") ≡ false → bytes_eq word (codes "level") ≡ false
    → (first_of words ≢ codes "node") × (first_of words ≢ codes "level")
neither words word is node level = (λ e. differ word (codes "node") node (sym is ∙ e), λ e. differ word (codes "level") level (sym is ∙ e))

-- and so is a line of an event
pub event_first_other : (words : List (List ℕ)) (event : Event) → EventWords words event
    → (first_of words ≢ codes "node") × (first_of words ≢ codes "level")
event_first_other words event (hear node datagram k bytes e n h b) = neither words (codes "hear") (ap first_of e) refl refl
event_first_other words event (exchange first second j k e m n is) = neither words (codes "exchange") (ap first_of e) refl refl
event_first_other words event (half first second j k e m n is) = neither words (codes "half") (ap first_of e) refl refl
event_first_other words event (refute node k e n is) = neither words (codes "refute") (ap first_of e) refl refl

-- ---- why a line is not read

-- the fault of a message is never that of an event, nor that of a device unless the device failed
pub wire_of_reading : (fault : WireFault) → (fault ≡ wire.Fault → ⊥) → IsOfReading (what_of fault)
wire_of_reading wire.Ended other = refl
wire_of_reading wire.NotUnsigned other = refl
wire_of_reading wire.OutOfRange other = refl
wire_of_reading wire.NotBool other = refl
wire_of_reading wire.NotRaw other = refl
wire_of_reading wire.TooLong other = refl
wire_of_reading wire.NotMap other = refl
wire_of_reading wire.MapCount other = refl
wire_of_reading wire.Fault other = absurd (other refl)
wire_of_reading wire.Memory other = tt
wire_of_reading wire.NameEmpty other = refl
wire_of_reading wire.BadAddress other = refl
wire_of_reading wire.BadVersions other = refl
wire_of_reading (wire.WrongType found) other = refl
wire_of_reading wire.UnknownKey other = refl
wire_of_reading wire.DuplicateKey other = refl
wire_of_reading (wire.BadState found) other = refl
wire_of_reading wire.TooManyNodes other = refl
wire_of_reading wire.UserTooLong other = refl
wire_of_reading wire.Trailing other = refl
