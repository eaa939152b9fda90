-- A pair of a map that is read: a key, and its value at its index.
use Rattle.std.proofs.Common.{◌≡◌, ℕ, zero, suc, ◌<◌, true, false, List, [], ◌∷◌, length, Option, Some, None, is_some}
use Rattle.std.proofs.Common.{Result, Ok, Err, refl, ap, ◌∙◌, slice_index_or, slice_set, arith}
use Rattle.std.specs.Option.{option_map}
use Rattle.std.proofs.lemmas.List.{get_or-map, map-set}
use Rattle.swim_pack.specs.Ends.{Source}
use Rattle.swim_pack.specs.Composing.{ReadsAs, same, gives}
use Rattle.swim_pack.proofs.Composing.{Reads-then, Reads-exit, Reads-gives, Reads-refuses}
use Rattle.swim_wire.specs.declared.fault.WireFault.{WireFault}
use Rattle.swim_wire.specs.declared.fault.WireFault.TheVariants.{DuplicateKey}
use Rattle.swim_wire.specs.declared.layout.Field.{Field}
use Rattle.swim_wire.specs.declared.layout.Limit.{Limit}
use Rattle.swim_wire.specs.declared.layout.Limit.TheVariants as limits
use Rattle.swim_wire.specs.declared.map.Value.{Value}
use Rattle.swim_wire.specs.Keys.{key_text}
use Rattle.swim_wire.specs.Reading.{wire_cause, Slots, slot, limit_at, if_vacant, value_at, key_at, pair_at}
use Rattle.swim_wire.specs.Slots.{FitsEach, spelled, slots_of, layout_of}

-- each key of the layout has a slot
pub within_slots : (layout : List Field) (values : List (Option Value)) (place : ℕ) → FitsEach layout values
    → place < length layout → place < length values
within_slots [] values place fits within = absurd (omega arith)
within_slots (field ∷ layout) [] place fits within = absurd fits
within_slots (field ∷ layout) (value ∷ values) zero fits within = omega arith
within_slots (field ∷ layout) (value ∷ values) (suc place) fits within =
    let below = within_slots layout values place fits.1 (omega arith) in omega (arith, below)

slot_is : (values : List (Option Value)) (place : ℕ) (d : Option Value) → place < length values → slot
    (slots_of values) place ≡ option_map spelled (slice_index_or values place d)
slot_is values place d within = get_or-map (λ value. option_map spelled value) values place d None within

pub limit_is : (fields : List Field) (place : ℕ) (d : Field) → place < length fields → limit_at (layout_of fields) place ≡
    (let field = slice_index_or fields place d in field.limit)
limit_is fields place d within =
    ap (λ (entry : List ℕ × Limit). entry.1)
    (get_or-map (λ (field : Field). (key_text field.key, field.limit)) fields place d
    ([], limits.Flag) within)

none_where : (old : Option Value) → is_some old ≡ false → option_map spelled old ≡ None
none_where None h = refl
none_where (Some value) h = cc

-- the value of a key that did not occur before
vacant_value : {b c : Source} {r : Result Value WireFault} (fields : List Field)
    (values : List (Option Value)) (place : ℕ) (e : Option Value) (d : Field)
    → place < length fields → place < length values → is_some (slice_index_or values place e) ≡ false
    → ReadsAs wire_cause spelled (value_at (let field = slice_index_or fields place d in field.limit)) b c r
    → ReadsAs wire_cause spelled (if_vacant (slot (slots_of values) place) (value_at (limit_at (layout_of fields) place))) b c r
vacant_value fields values place e d known within none q =
    let vacant = slot_is values place e within ∙ none_where (slice_index_or values place e) none in
    rw (vacant, limit_is fields place d known) q

-- no pair was read, since its key was refused
pub pair_without_key : {X : Type 0} {view : X
    → Slots} {a b : Source} {error : WireFault} (fields : List Field) (values : List (Option Value))
    → ReadsAs {X = ℕ} wire_cause same (key_at (layout_of fields)) a b (Err error)
    → ReadsAs {X = X} wire_cause view (pair_at (layout_of fields) (slots_of values)) a b (Err error)
unfolding pair_at
pair_without_key fields values p = Reads-exit _ p

-- since its key occurred before
pub pair_twice : {X : Type 0} {view : X
    → Slots} {a b : Source} (fields : List Field) (values : List (Option Value)) (place : ℕ)
    (e : Option Value)
    → place < length values → is_some (slice_index_or values place e) ≡ true
    → ReadsAs wire_cause same (key_at (layout_of fields)) a b (Ok place)
    → ReadsAs {X = X} wire_cause view (pair_at (layout_of fields) (slots_of values)) a b (Err DuplicateKey)
unfolding pair_at
pair_twice {X} {view} {a} {b} fields values place e within some p =
    Reads-then _ p (Reads-exit _ (duplicate (slice_index_or values place e) some (slot_is values place e within)))
  where
    duplicate : (o : Option Value) → is_some o ≡ true → slot (slots_of values) place ≡ option_map spelled o
        → ReadsAs {X = Value} wire_cause spelled
        (if_vacant (slot (slots_of values) place) (value_at (limit_at (layout_of fields) place))) b b (Err DuplicateKey)
    duplicate None h e = cc
    duplicate (Some value) h e = rw e (Reads-refuses DuplicateKey refl)

-- since its value was refused
pub pair_without_value : {X : Type 0} {view : X → Slots} {a b c : Source} {error : WireFault} (fields : List Field)
    (values : List (Option Value)) (place : ℕ) (e : Option Value) (d : Field)
    → place < length fields → place < length values → is_some (slice_index_or values place e) ≡ false
    → ReadsAs wire_cause same (key_at (layout_of fields)) a b (Ok place)
    → ReadsAs {X = Value} wire_cause spelled (value_at (let field = slice_index_or fields place d in field.limit)) b c (Err error)
    → ReadsAs {X = X} wire_cause view (pair_at (layout_of fields) (slots_of values)) a c (Err error)
unfolding pair_at
pair_without_value fields values place e d known within none p q = Reads-then _ p
    (Reads-exit _ (vacant_value fields values place e d known within none q))

-- a pair was read
pub pair_read : {X : Type 0} {x : X} {a b c : Source} {value : Value} (fields : List Field) (values : List (Option Value))
    (place : ℕ) (e : Option Value) (d : Field)
    → place < length fields → place < length values → is_some (slice_index_or values place e) ≡ false
    → ReadsAs wire_cause same (key_at (layout_of fields)) a b (Ok place)
    → ReadsAs wire_cause spelled (value_at (let field = slice_index_or fields place d in field.limit)) b c (Ok value)
    → ReadsAs wire_cause (λ (y : X). slots_of (slice_set values place (Some value)))
    (pair_at (layout_of fields) (slots_of values)) a c (Ok x)
unfolding pair_at
pair_read {X} {x} {c} {value} fields values place e d known within none p q =
    let after : slots_of (slice_set values place (Some value)) ≡ slice_set (slots_of values) place (Some (spelled value)) =
    map-set (λ value. option_map spelled value) values place (Some value) in
    let set : ReadsAs wire_cause (λ (y : X). slots_of (slice_set values place (Some value)))
    (gives (slice_set (slots_of values) place (Some (spelled value))))
    c c (Ok x) =
    rw after (Reads-gives {view = λ (y : X). slice_set (slots_of values) place (Some (spelled value))} x) in
    Reads-then _ p (Reads-then _ (vacant_value fields values place e d known within none q) set)
