-- The canonical bytes of a map encode it.
use Rattle.std.proofs.Common.{◌≡◌, ℕ, ◌<◌, ◌≤◌, ◌^◌, List, [], ◌∷◌, length, map, Some, refl}
use Rattle.std.specs.List.{flat_map, AllByRecursion, IsDistinct}
use Rattle.std.specs.Str.{bytes_eq}
use Rattle.swim_pack.specs.Spelling.{raw_text, count_text}
use Rattle.swim_pack.proofs.Canonical.{number_text_is, raw_text_is, flag_text_is, count_text_is}
use Rattle.swim_wire.specs.declared.layout.Limit.{Limit}
use Rattle.swim_wire.specs.declared.layout.Limit.TheVariants as limits
use Rattle.swim_wire.specs.Layout.{Layout, Pairs, Spelled, Spells, PairText, PairTexts, MapText, of_key}
use Rattle.swim_wire.specs.Layout.Spelled.{number, raw, flag}
use Rattle.swim_wire.specs.Pairs.{value_text, pair_text, map_text}

-- the value is of the kind and within the limit, and has a canonical encoding
abbrev pub IsWithin : Limit → Spelled → Type 0
IsWithin (limits.Number max) (number v) = (v ≤ max) × (v < 2 ^ 64)
IsWithin (limits.Raw limit) (raw s) = (length s ≤ limit) × (length s < 2 ^ 16)
IsWithin limits.Flag (flag f) = Unit {0}
IsWithin limit value = ⊥

-- the pair has a key of the layout, and a value within its limit
pub record IsPairOf (layout : Layout) (pair : List ℕ × Spelled) : Type 0 where
  pub limit : Limit
  pub in_layout : of_key pair.0 layout ≡ Some limit
  pub short : length pair.0 < 2 ^ 16
  pub value : IsWithin limit pair.1

pub Spells-canonical : (limit : Limit) (value : Spelled) → IsWithin limit value → Spells limit (value_text value) value
Spells-canonical (limits.Number max) (number v) h = (number_text_is v h.1, h.0)
Spells-canonical (limits.Raw limit) (raw s) h = (raw_text_is s h.1, h.0)
Spells-canonical limits.Flag (flag f) h = flag_text_is f
Spells-canonical (limits.Number max) (raw s) h = absurd h
Spells-canonical (limits.Number max) (flag f) h = absurd h
Spells-canonical (limits.Raw limit) (number v) h = absurd h
Spells-canonical (limits.Raw limit) (flag f) h = absurd h
Spells-canonical limits.Flag (number v) h = absurd h
Spells-canonical limits.Flag (raw s) h = absurd h

pub PairText-canonical : (layout : Layout) (pair : List ℕ × Spelled) → IsPairOf layout pair → PairText layout (pair_text pair) pair
PairText-canonical layout pair h = record {
  limit = h.limit;
  in_layout = h.in_layout;
  key_text = raw_text pair.0;
  value_text = value_text pair.1;
  key = raw_text_is pair.0 h.short;
  value = Spells-canonical h.limit pair.1 h.value;
  text = refl;
}

pub PairTexts-canonical : (layout : Layout) (pairs : Pairs) → AllByRecursion (IsPairOf layout) pairs
    → PairTexts layout (flat_map pair_text pairs) pairs
PairTexts-canonical layout [] h = refl
PairTexts-canonical layout (pair ∷ pairs) h =
    (pair_text pair, flat_map pair_text pairs, PairText-canonical layout pair h.0, PairTexts-canonical layout pairs h.1, refl)

pub MapText-canonical : (layout : Layout) (pairs : Pairs) → length pairs < 16 → AllByRecursion (IsPairOf layout) pairs
    → IsDistinct bytes_eq (map (λ pair. pair.0) pairs) → MapText layout (map_text pairs) pairs
MapText-canonical layout pairs few within distinct = record {
  count_text = count_text (length pairs);
  pairs_text = flat_map pair_text pairs;
  count = count_text_is (length pairs) few;
  each = PairTexts-canonical layout pairs within;
  distinct = distinct;
  text = refl;
}
