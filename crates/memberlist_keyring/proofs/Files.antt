-- Texts that are not key files.
use Rattle.std.proofs.Common.{◌≡◌, ◌≢◌, inl, inr, ℕ, zero, suc, ◌+◌, ◌<◌, ◌≤◌, eqb, List, [], ◌∷◌, ◌++◌, length, get_or}
use Rattle.std.proofs.Common.{take, drop, map, Option, Some, None, MatchBool, IsUtf8, refl, sym, ap, subst, ◌∙◌, arith}
use Rattle.std.specs.List.{All}
use Rattle.std.proofs.lemmas.Bool.{cases_eq, cases_lt, ne_eqb}
use Rattle.std.proofs.lemmas.List.{get_or-take, get_or_at, get_or_append_left, drop_more, take-append-drop}
use Rattle.std.proofs.lemmas.List.{length-append, length-take-le, take_all, length-map}
use Rattle.std.proofs.Math.ListN.{get_or-map}
use Rattle.serde_json.specs.Data.{Data, null, boolean, number, string, array, object, Items}
use Rattle.serde_json.specs.Find.{as_str, as_array}
use Rattle.serde_json.specs.Read.{read as read_text}
use Rattle.serde_json.specs.View.{items_of}
use Rattle.memberlist_keyring.specs.declared.fault.KeyFileFault.{KeyFileFault}
use Rattle.memberlist_keyring.specs.declared.fault.KeyFileFault.TheVariants.{Line, Item, NotList, Memory}
use Rattle.memberlist_keyring.specs.KeyFile.{HoldInOrder, LineHolds, ItemHolds, lines_of, IsKeyText, IsWrongText}
use Rattle.memberlist_keyring.specs.KeyFile.{IsBlank, IsListText, IsKeyFile, ItemsCause, KeyFileCause}
use Rattle.memberlist_keyring.proofs.Holding.{first_wrong, first_wrong_lacks}

-- ---- the first byte that is not blank

at_front : (front others : List ℕ) → get_or (front ++ 91 ∷ others) (length front) 0 ≡ 91
at_front front others = get_or_at front 91 others 0 (length front) refl

bracket_is_not_blank : ¬ IsBlank 91
bracket_is_not_blank (inl e) = omega arith
bracket_is_not_blank (inr (inl e)) = omega arith
bracket_is_not_blank (inr (inr (inl e))) = omega arith
bracket_is_not_blank (inr (inr (inr e))) = omega arith

pub all_blank : (text : List ℕ) → All IsBlank text → ¬ IsListText text
all_blank text blank h =
    let n = length h.0 in
    let size = ap length h.2 ∙ length-append h.0 (91 ∷ h.1) in
    let P : ℕ → Type 0 = λ b. IsBlank b in
    bracket_is_not_blank (subst P (ap (λ (t : List ℕ). get_or t n 0) h.2 ∙ at_front h.0 h.1) (blank n 0 (omega (arith, size))))

pub blank_to_end : (text : List ℕ) (i : ℕ) → length text ≤ i → All IsBlank (take i text) → ¬ IsListText text
blank_to_end text i end blank = let P : List ℕ → Type 0 = λ t. All IsBlank t in all_blank text (subst P (take_all i text end) blank)

pub begins_list : (text : List ℕ) (i : ℕ) → i < length text → All IsBlank (take i text) → get_or text i 0 ≡ 91 → IsListText text
begins_list text i within blank is =
    let rest : drop i text ≡ 91 ∷ drop (i + 1) text = drop_more text i 0 within ∙ ap (λ (b : ℕ). b ∷ drop (i + 1) text) is in
    (take i text, drop (i + 1) text, sym (take-append-drop i text) ∙ ap (λ (t : List ℕ). take i text ++ t) rest, blank)

pub begins_otherwise : (text : List ℕ) (i : ℕ) → i < length text → All IsBlank (take i text) → ¬ IsBlank (get_or text i 0)
    → get_or text i 0 ≢ 91 → ¬ IsListText text
begins_otherwise text i within blank lacks other h =
    let n = length h.0 in
    let size = ap length h.2 ∙ length-append h.0 (91 ∷ h.1) in
    let P : ℕ → Type 0 = λ b. IsBlank b in
    elim (cases_lt n i) [
      | inl before ↦
          let short : n < length (take i text) = omega (arith, length-take-le i text (omega arith)) in
          let b = blank n 0 short in
          bracket_is_not_blank (subst P (get_or-take i text n 0 before ∙ ap (λ (t : List ℕ). get_or t n 0) h.2 ∙ at_front h.0 h.1) b)
      | inr past ↦ elim (cases_eq n i) [
        | inl same ↦ other (ap (λ (k : ℕ). get_or text k 0) (sym same) ∙ ap (λ (t : List ℕ). get_or t n 0) h.2 ∙ at_front h.0 h.1)
        | inr not_same ↦
            let below : i < n = omega arith in
            lacks (subst P (sym (ap (λ (t : List ℕ). get_or t i 0) h.2 ∙ get_or_append_left h.0 (91 ∷ h.1) 0 i below)) (h.3 i 0 below))
      ]
    ]

pub first_byte : (text : List ℕ) (i : ℕ) → i < length text → All IsBlank (take i text) → ¬ IsBlank (get_or text i 0)
    → MatchBool (eqb (get_or text i 0) 91) (IsListText text) (¬ IsListText text)
first_byte text i within blank lacks = elim (cases_eq (get_or text i 0) 91) [
  | inl is ↦ rw is (begins_list text i within blank is)
  | inr other ↦ rw (ne_eqb _ _ other) (begins_otherwise text i within blank lacks other)
]

-- ---- lists in JSON

pub string_from_as_str : (d : Data) (text : List ℕ) → as_str d ≡ Some text → d ≡ string text
string_from_as_str null text e = cc
string_from_as_str (boolean b) text e = cc
string_from_as_str (number n) text e = cc
string_from_as_str (string s) text e = cc
string_from_as_str (array ds) text e = cc
string_from_as_str (object ms) text e = cc

pub array_from_as_array : (d : Data) (items : Items) → as_array d ≡ Some items → d ≡ array items
array_from_as_array null items e = cc
array_from_as_array (boolean b) items e = cc
array_from_as_array (number n) items e = cc
array_from_as_array (string s) items e = cc
array_from_as_array (array ds) items e = cc
array_from_as_array (object ms) items e = cc

pub one_list : (xs ys : List Data) → items_of xs ≡ items_of ys → xs ≡ ys
one_list [] [] e = refl
one_list [] (y ∷ ys) e = cc
one_list (x ∷ xs) [] e = cc
one_list (x ∷ xs) (y ∷ ys) e =
    let head : x ≡ y = cc in
    let tails : items_of xs ≡ items_of ys = cc in
    let rest = one_list xs ys tails in
    cc

text_at : (texts : List (List ℕ)) (i : ℕ) (d : Data) → i < length (map string texts)
    → (text : List ℕ) × (get_or (map string texts) i d ≡ string text)
text_at [] i d within = absurd (omega arith)
text_at (t ∷ ts) zero d within = (t, refl)
text_at (t ∷ ts) (suc i) d within = text_at ts i d (omega arith)

-- an item that is not a text
pub not_texts : (items : List Data) (i : ℕ) (d : Data) → i < length items → get_or items i d ≡ d → as_str d ≡ None →
    (texts : List (List ℕ)) → items ≢ map string texts
not_texts items i d within read lacks texts e =
    let t = text_at texts i d (omega (arith, ap length e)) in
    let is : d ≡ string t.0 = sym read ∙ ap (λ (ds : List Data). get_or ds i d) e ∙ t.1 in
    let found : as_str d ≡ Some t.0 = ap as_str is in
    cc

pub no_texts : {Y : Type 0} (f : Y → Data) (ys : List Y) (i : ℕ) (y : Y) → i < length ys → y ≡ get_or ys i y → None ≡ as_str
    (f y) → (texts : List (List ℕ)) → map f ys ≢ map string texts
no_texts f ys i y within read none =
    not_texts (map f ys) i (f y) (omega (arith, length-map ys f)) (get_or-map f ys i y ∙ ap f (sym read)) (sym none)

-- what an item that is a text holds
pub item_holds : (d : Data) (text bytes key : List ℕ) → Some text ≡ as_str d → bytes ≡ text → IsKeyText bytes key → ItemHolds d (key ∷ [])
item_holds d text bytes key is same good =
    let P : List ℕ → Type 0 = λ t. IsKeyText t key in
    (text, key, string_from_as_str d text (sym is), subst P same good, refl)

pub item_lacks : (d : Data) (text bytes : List ℕ) → Some text ≡ as_str d → bytes ≡ text →
    ((key : List ℕ) → ¬ IsKeyText bytes key) → (held : List (List ℕ)) → ¬ ItemHolds d held
item_lacks d text bytes is same lacks held h =
    let e : string h.0 ≡ string text = sym h.2 ∙ string_from_as_str d text (sym is) in
    let texts : h.0 ≡ bytes = (cc) ∙ sym same in
    let P : List ℕ → Type 0 = λ t. IsKeyText t h.1 in
    lacks h.1 (subst P texts h.3)

pub texts_of : (items : List Data) (keys : List (List ℕ)) → HoldInOrder ItemHolds items keys
    → (texts : List (List ℕ)) × (items ≡ map string texts)
texts_of [] keys h = ([], refl)
texts_of (d ∷ ds) keys h =
    let more = texts_of ds h.1 h.3 in
    let first = h.2 in
    let is : d ≡ string first.0 = first.2 in
    let others : ds ≡ map string more.0 = more.1 in
    (first.0 ∷ more.0, cc)

pub same_items : {text : Option Data} (xs ys : List Data) → text ≡ Some (array (items_of xs)) → text ≡ Some (array (items_of ys)) → xs ≡ ys
same_items xs ys a b =
    let e : Some (array (items_of xs)) ≡ Some (array (items_of ys)) = sym a ∙ b in
    let inside : items_of xs ≡ items_of ys = cc in
    one_list xs ys inside

-- a refusal for a reason other than memory leaves no keys
pub no_key_file : (fault : KeyFileFault) (text : List ℕ) → fault ≢ Memory → KeyFileCause fault text
    → (keys : List (List ℕ)) → ¬ IsKeyFile text keys
no_key_file (Line n) text other c keys (inl h) = c.0 h.0
no_key_file (Line n) text other c keys (inr h) = first_wrong_lacks LineHolds (lines_of text) n c.1 keys h.1
no_key_file (Item n) text other c keys (inl h) =
    let same = same_items c.1 h.1 c.2.1 h.2.1 in
    let P : List Data → Type 0 = λ ds. HoldInOrder ItemHolds ds keys in
    first_wrong_lacks ItemHolds c.1 n c.3.first keys (subst P (sym same) h.3)
no_key_file (Item n) text other c keys (inr h) = h.0 c.0
no_key_file NotList text other c keys (inl h) =
    let texts = texts_of h.1 keys h.3 in
    c.1 texts.0 (h.2.0, h.2.1 ∙ ap (λ (ds : List Data). Some (array (items_of ds))) texts.1)
no_key_file NotList text other c keys (inr h) = h.0 c.0
no_key_file Memory text other c keys h = other refl

-- the first item that is wrong, which is a text
pub wrong_text : {Y : Type 0} (f : Y
    → Data) (ys : List Y) (i : ℕ) (y : Y) (keys : List (List ℕ)) (text bytes : List ℕ) → i < length ys
    → y ≡ get_or ys i y
    → HoldInOrder ItemHolds (map f (take i ys)) keys → Some text ≡ as_str (f y) → bytes ≡ text
    → ((key : List ℕ) → ¬ IsKeyText bytes key) → IsWrongText (map f ys) (i + 1)
unfolding first_wrong
wrong_text f ys i y keys text bytes within read held is same lacks = record {
  first = first_wrong ItemHolds f ys i y keys within read held (item_lacks (f y) text bytes is same lacks);
  text = text;
  is = string_from_as_str (f y) text (sym is);
}

-- why a list with these items is refused
pub list_cause : (fault : KeyFileFault) (text : List ℕ) (d : Data) (items : List Data) → IsListText text → IsUtf8 text ×
    (read_text text ≡ Some d) → Some (items_of items) ≡ as_array d
    → ItemsCause fault items → KeyFileCause fault text
list_cause (Line n) text d items list json is c = absurd c
list_cause (Item n) text d items list json is c =
    (list, items, (json.0, json.1 ∙ ap (λ (v : Data). Some v) (array_from_as_array d (items_of items) (sym is))), c)
list_cause NotList text d items list json is c = (
  list,
  λ texts j. c texts (same_items items (map string texts)
      (json.1 ∙ ap (λ (v : Data). Some v) (array_from_as_array d (items_of items) (sym is))) j.1),
)
list_cause Memory text d items list json is c = inl list
