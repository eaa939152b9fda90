-- Maps as memberlist writes them in MessagePack: keys of a layout, each with a value within its
-- limit.
use Rattle.std.specs.Prelude.{◌≡◌, ℕ, ◌≤◌, Bool, false, List, [], ◌∷◌, ◌++◌, length, map, Option, Some}
use Rattle.std.specs.List.{IsDistinct}
use Rattle.std.specs.Map.{lookup}
use Rattle.std.specs.Str.{bytes_eq}
use Rattle.swim_claim.specs.Limits.{max_meta_len, max_name_len}
use Rattle.swim_pack.specs.Spelling.{Number, Raw, Flag, Count}
use Rattle.swim_wire.specs.declared.layout.Key.{Key}
use Rattle.swim_wire.specs.declared.layout.Key.TheVariants as keys
use Rattle.swim_wire.specs.declared.layout.Limit.{Limit}
use Rattle.swim_wire.specs.declared.layout.Limit.TheVariants as limits
use Rattle.swim_wire.specs.Keys.{key_text}

-- a value of a map
pub data Spelled : Type 0 where
  number : ℕ → Spelled
  raw : List ℕ → Spelled
  flag : Bool → Spelled

-- the bytes b encode the value, which is of this kind and within this limit
abbrev pub Spells : Limit → List ℕ → Spelled → Type 0
Spells (limits.Number max) b (number v) = Number b v × (v ≤ max)
Spells (limits.Raw limit) b (raw s) = Raw b s × (length s ≤ limit)
Spells limits.Flag b (flag f) = Flag b f
Spells limit b value = ⊥

-- keys, and the limits of their values
abbrev pub Layout : Type 0
Layout = List (List ℕ × Limit)

-- keys and their values, in the order of the map
abbrev pub Pairs : Type 0
Pairs = List (List ℕ × Spelled)

-- what belongs to this key, if anything does
abbrev pub of_key : {X : Type 0} → List ℕ → List (List ℕ × X) → Option X
of_key key entries = lookup (bytes_eq key) entries

-- The bytes b encode a pair: a key of the layout, then a value within the limit of the key.
pub record PairText (layout : Layout) (b : List ℕ) (pair : List ℕ × Spelled) : Type 0 where
  pub limit : Limit
  pub in_layout : of_key pair.0 layout ≡ Some limit
  pub key_text : List ℕ
  pub value_text : List ℕ
  pub key : Raw key_text pair.0
  pub value : Spells limit value_text pair.1
  pub text : b ≡ key_text ++ value_text

-- The bytes b encode these pairs, one after the other.
abbrev pub PairTexts : Layout → List ℕ → Pairs → Type 0
PairTexts layout b [] = b ≡ []
PairTexts layout b (pair ∷ pairs) = (first rest : List ℕ) × PairText layout first pair
    × PairTexts layout rest pairs × (b ≡ first ++ rest)

-- The bytes b encode a map of the layout: the count of its pairs, and then the pairs, no key twice.
pub record MapText (layout : Layout) (b : List ℕ) (pairs : Pairs) : Type 0 where
  pub count_text : List ℕ
  pub pairs_text : List ℕ
  pub count : Count count_text (length pairs)
  pub each : PairTexts layout pairs_text pairs
  pub distinct : IsDistinct bytes_eq (map (λ pair. pair.0) pairs)
  pub text : b ≡ count_text ++ pairs_text

-- the number, or 0 if the key is absent
abbrev pub number_or_zero : Option Spelled → ℕ
number_or_zero (Some (number v)) = v
number_or_zero value = 0

-- the bytes, or none if the key is absent
abbrev pub raw_or_empty : Option Spelled → List ℕ
raw_or_empty (Some (raw s)) = s
raw_or_empty value = []

-- the truth value, or false if the key is absent
abbrev pub flag_or_false : Option Spelled → Bool
flag_or_false (Some (flag f)) = f
flag_or_false value = false

-- the number of a key in the pairs
abbrev pub number_of : Key → Pairs → ℕ
number_of key pairs = number_or_zero (of_key (key_text key) pairs)

-- the bytes of a key in the pairs
abbrev pub raw_of : Key → Pairs → List ℕ
raw_of key pairs = raw_or_empty (of_key (key_text key) pairs)

-- the truth value of a key in the pairs
abbrev pub flag_of : Key → Pairs → Bool
flag_of key pairs = flag_or_false (of_key (key_text key) pairs)

-- memberlist's alive
abbrev pub alive_layout : Layout
alive_layout =
    (key_text keys.Addr, limits.Raw 16) ∷ (key_text keys.Incarnation, limits.Number 0xffff_ffff)
    ∷ (key_text keys.Meta, limits.Raw max_meta_len) ∷ (key_text keys.Node, limits.Raw max_name_len)
    ∷ (key_text keys.Port, limits.Number 0xffff) ∷ (key_text keys.Vsn, limits.Raw 6) ∷ []

-- memberlist's suspect and dead
abbrev pub accusation_layout : Layout
accusation_layout =
    (key_text keys.From, limits.Raw max_name_len)
    ∷ (key_text keys.Incarnation, limits.Number 0xffff_ffff)
    ∷ (key_text keys.Node, limits.Raw max_name_len) ∷ []

-- memberlist's pushPullHeader
abbrev pub header_layout : Layout
header_layout =
    (key_text keys.Join, limits.Flag) ∷ (key_text keys.Nodes, limits.Number 0xffff_ffff_ffff_ffff)
    ∷ (key_text keys.UserStateLen, limits.Number 0xffff_ffff_ffff_ffff) ∷ []

-- memberlist's pushNodeState
abbrev pub state_layout : Layout
state_layout =
    (key_text keys.Addr, limits.Raw 16) ∷ (key_text keys.Incarnation, limits.Number 0xffff_ffff)
    ∷ (key_text keys.Meta, limits.Raw max_meta_len) ∷ (key_text keys.Name, limits.Raw max_name_len)
    ∷ (key_text keys.Port, limits.Number 0xffff)
    ∷ (key_text keys.State, limits.Number 0xffff_ffff_ffff_ffff)
    ∷ (key_text keys.Vsn, limits.Raw 6) ∷ []
