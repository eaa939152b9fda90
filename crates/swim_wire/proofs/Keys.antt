-- Layouts, and the indices of their keys.
use Rattle.std.proofs.Common.{◌≡◌, ◌≢◌, ℕ, zero, suc, ◌<◌, ◌≤◌, Bool, true, false, cond, ltb, List, [], ◌∷◌, length}
use Rattle.std.proofs.Common.{Some, refl, sym, ◌∙◌, ⊎_elim, arith}
use Rattle.std.proofs.lemmas.Bool.{cases_Bool, lt-ltb}
use Rattle.std.proofs.lemmas.List.Quantifiers.{position-Some}
use Rattle.std.proofs.lemmas.List.Sums.{position_or_len_is}
use Rattle.std.proofs.lemmas.Slice.Eq.{bytes_eq-Decides}
use Rattle.std.specs.Prelude.{slice_index_or}
use Rattle.std.specs.List.{IsDistinct, AllByRecursion, position_or_len}
use Rattle.std.specs.Map.{keys_of}
use Rattle.std.specs.Str.{bytes_eq}
use Rattle.swim_wire.specs.declared.layout.Limit.{Limit}
use Rattle.swim_wire.specs.declared.layout.Limit.TheVariants as limits
use Rattle.swim_wire.specs.declared.claimless.Claimless.{Claimless}
use Rattle.swim_wire.specs.declared.claimless.Claimless.TheVariants.{Ping, IndirectPing, Ack, User, Nack, Error}
use Rattle.swim_wire.specs.Claimless.{claimless_layout}
use Rattle.swim_wire.specs.Compression.{compression_layout}
use Rattle.swim_wire.specs.Layout.{Layout, of_key, alive_layout, accusation_layout, header_layout, state_layout}
use Rattle.swim_wire.specs.Reading.{place_of, limit_at}

-- no two keys are equal, each can be read as a key, and each has a slot
pub record IsLegalLayout (layout : Layout) : Type 0 where
  pub distinct : IsDistinct bytes_eq (keys_of layout)
  pub short : AllByRecursion (λ key. length key ≤ 12) (keys_of layout)
  pub few : length layout ≤ 8

pub alive_legal : IsLegalLayout alive_layout
unfolding IsDistinct
alive_legal = record { distinct = search arith; short = search arith; few = omega arith }

pub accusation_legal : IsLegalLayout accusation_layout
unfolding IsDistinct
accusation_legal = record { distinct = search arith; short = search arith; few = omega arith }

pub header_legal : IsLegalLayout header_layout
unfolding IsDistinct
header_legal = record { distinct = search arith; short = search arith; few = omega arith }

pub state_legal : IsLegalLayout state_layout
unfolding IsDistinct
state_legal = record { distinct = search arith; short = search arith; few = omega arith }

pub compression_legal : (limit : ℕ) → IsLegalLayout (compression_layout limit)
unfolding IsDistinct
compression_legal limit = record { distinct = search arith; short = search arith; few = omega arith }

pub claimless_legal : (limit : ℕ) (kind : Claimless) → IsLegalLayout (claimless_layout limit kind)
unfolding IsDistinct
claimless_legal limit Ping = record { distinct = search arith; short = search arith; few = omega arith }
claimless_legal limit IndirectPing = record { distinct = search arith; short = search arith; few = omega arith }
claimless_legal limit Ack = record { distinct = search arith; short = search arith; few = omega arith }
claimless_legal limit User = record { distinct = search arith; short = search arith; few = omega arith }
claimless_legal limit Nack = record { distinct = search arith; short = search arith; few = omega arith }
claimless_legal limit Error = record { distinct = search arith; short = search arith; few = omega arith }

-- the key at an index of the layout
abbrev pub key_in : Layout → ℕ → List ℕ
key_in layout place = let field = slice_index_or layout place ([], limits.Flag) in field.0

pub same_key : (a b : List ℕ) → bytes_eq a b ≡ true → a ≡ b
same_key a b = (bytes_eq-Decides a b).0

pub key_same : (a b : List ℕ) → a ≡ b → bytes_eq a b ≡ true
key_same a b = (bytes_eq-Decides a b).1

pub other_key : (a b : List ℕ) → a ≢ b → bytes_eq a b ≡ false
other_key a b differ = ⊎_elim (λ t. absurd (differ (same_key a b t))) (λ f. f) (cases_Bool (bytes_eq a b))

-- the first index of this key
pub record IsFirstAt (layout : Layout) (key : List ℕ) (place : ℕ) : Type 0 where
  pub inside : place < length layout
  pub here : key_in layout place ≡ key
  pub first : (k : ℕ) → k < place → key_in layout k ≢ key

pub false≢true : false ≡ true → ⊥
false≢true e = cc

pub first_from_place : (layout : Layout) (key : List ℕ) (place : ℕ) → place_of layout key ≡ Some place → IsFirstAt layout key place
first_from_place layout key place e =
    let h = position-Some (λ field. bytes_eq field.0 key) layout place ([], limits.Flag) e in
    record {
      inside = h.0;
      here = same_key (key_in layout place) key h.1;
      first = λ k lt same. false≢true (sym (h.2 k lt) ∙ key_same (key_in layout k) key same);
    }

pub place_from_first : (layout : Layout) (key : List ℕ) (place : ℕ) → IsFirstAt layout key place → place_of layout key ≡ Some place
place_from_first layout key place h =
    let at : position_or_len (λ field. bytes_eq field.0 key) layout ≡ place =
    position_or_len_is (λ field. bytes_eq field.0 key) layout place ([], limits.Flag) (let inside = h.inside in omega arith)
    (λ k lt. other_key (key_in layout k) key (h.first k lt)) (λ _. key_same (key_in layout place) key h.here) in
    let inside = h.inside in
    let within : ltb (position_or_len (λ field. bytes_eq field.0 key) layout) (length layout) ≡ true = lt-ltb _ _ (omega arith) in
    rw (within, at) refl

-- the limit of a key is that of its first index
pub limit_from_first : (layout : Layout) (key : List ℕ) (place : ℕ) → IsFirstAt layout key place
    → of_key key layout ≡ Some (limit_at layout place)
limit_from_first [] key place h = absurd (let inside = h.inside in omega arith)
limit_from_first (field ∷ layout) key zero h = rw (key_same key field.0 (sym h.here)) refl
limit_from_first (field ∷ layout) key (suc place) h =
    let other : bytes_eq key field.0 ≡ false = other_key key field.0 (λ same. h.first 0 (omega arith) (sym same)) in
    let inside = h.inside in
    rw other (limit_from_first layout key place
    (record { inside = omega arith; here = h.here; first = λ k lt. h.first (suc k) (omega arith) }))

pub some_is : {A : Type 0} (x y : A) → Some x ≡ Some y → x ≡ y
some_is x y e = cc

-- a key of the layout, at its first index
pub record IsFound (layout : Layout) (key : List ℕ) (limit : Limit) : Type 0 where
  pub place : ℕ
  pub first : IsFirstAt layout key place
  pub limit_is : limit_at layout place ≡ limit

pub found : (layout : Layout) (key : List ℕ) (limit : Limit) → of_key key layout ≡ Some limit → IsFound layout key limit
found [] key limit e = absurd cc
found (field ∷ layout) key limit e = by (bytes_eq key field.0) refl e (found layout key limit)
  where
    by : (b : Bool) → bytes_eq key field.0 ≡ b → cond b (Some field.1) (of_key key layout) ≡ Some limit →
        (of_key key layout ≡ Some limit → IsFound layout key limit)
        → IsFound (field ∷ layout) key limit
    by true t e later = record {
      place = 0;
      first = record { inside = omega arith; here = sym (same_key key field.0 t); first = λ k lt. absurd (omega arith) };
      limit_is = some_is field.1 limit e;
    }
    by false t e later =
        let rest = later e in
        let inside = rest.first.inside in
        record {
          place = suc rest.place;
          first = record { inside = omega arith; here = rest.first.here; first = apart rest.place rest.first };
          limit_is = rest.limit_is;
        }
      where
        apart : (place : ℕ) → IsFirstAt layout key place → (k : ℕ) → k < suc place → key_in (field ∷ layout) k ≢ key
        apart place h zero lt same = false≢true (sym t ∙ key_same key field.0 (sym same))
        apart place h (suc k) lt same = h.first k (omega arith) same

pub all_at : (P : List ℕ → Type 0) (layout : Layout) (place : ℕ) → AllByRecursion P (keys_of layout)
    → place < length layout → P (key_in layout place)
all_at P [] place each inside = absurd (omega arith)
all_at P (field ∷ layout) zero each inside = each.0
all_at P (field ∷ layout) (suc place) each inside = all_at P layout place each.1 (omega arith)

-- the first index of each key is its own
own_first : (layout : Layout) (place : ℕ) → IsDistinct bytes_eq (keys_of layout) → place < length layout → (k : ℕ) → k < place
    → key_in layout k ≢ key_in layout place
unfolding IsDistinct
own_first [] place distinct inside k lt same = absurd (omega arith)
own_first (field ∷ layout) zero distinct inside k lt same = absurd (omega arith)
own_first (field ∷ layout) (suc place) distinct inside zero lt same =
    let apart = all_at (λ y. bytes_eq field.0 y ≡ false) layout place distinct.0 (omega arith) in
    false≢true (sym apart ∙ key_same field.0 (key_in layout place) same)
own_first (field ∷ layout) (suc place) distinct inside (suc k) lt same = own_first layout place distinct.1
    (omega arith) k (omega arith) same

pub own_place : (layout : Layout) (place : ℕ) → IsDistinct bytes_eq (keys_of layout) → place < length layout → place_of layout
    (key_in layout place) ≡ Some place
own_place layout place distinct inside =
    place_from_first layout (key_in layout place) place
    (record { inside = inside; here = refl; first = own_first layout place distinct inside })
