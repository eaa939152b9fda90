-- Maps as they are written: pairs of keys and values, each in its canonical encoding.
use Rattle.std.specs.Prelude.{ℕ, ◌<◌, ◌^◌, List, ◌++◌, length, map, Option, Some, None}
use Rattle.std.specs.List.{flat_map}
use Rattle.swim_claim.specs.declared.claim.Kind.{Kind}
use Rattle.swim_claim.specs.declared.claim.Kind.TheVariants as kind
use Rattle.swim_claim.specs.Details.{DetailsValue}
use Rattle.swim_pack.specs.Spelling.{number_text, raw_text, flag_text, count_text}
use Rattle.swim_wire.specs.declared.canonical.pairs.Written.{Written}
use Rattle.swim_wire.specs.declared.canonical.pairs.Written.TheVariants as written
use Rattle.swim_wire.specs.declared.layout.Key.{Key}
use Rattle.swim_wire.specs.Canonical.{no_details}
use Rattle.swim_wire.specs.Keys.{key_text}
use Rattle.swim_wire.specs.Layout.{Spelled, Pairs}
use Rattle.swim_wire.specs.Layout.Spelled.{number, raw, flag}

-- the canonical bytes of a value
abbrev pub value_text : Spelled → List ℕ
value_text (number v) = number_text v
value_text (raw s) = raw_text s
value_text (flag f) = flag_text f

-- the canonical bytes of a key and its value
abbrev pub pair_text : List ℕ × Spelled → List ℕ
pair_text pair = raw_text pair.0 ++ value_text pair.1

-- the canonical bytes of a map: the count of its pairs, and then the pairs
abbrev pub map_text : Pairs → List ℕ
map_text pairs = count_text (length pairs) ++ flat_map pair_text pairs

-- a value that the code writes
abbrev pub written_value : Written → Spelled
written_value (written.Number v) = number v
written_value (written.Raw bytes) = raw bytes.now

-- a pair that the code writes
abbrev pub pair_of : Key × Written → List ℕ × Spelled
pair_of pair = (key_text pair.0, written_value pair.1)

-- the pairs that the code writes
abbrev pub pairs_of : List (Key × Written) → Pairs
pairs_of pairs = map pair_of pairs

-- the bytes are short enough for a length in two bytes
abbrev pub IsShort : Written → Type 0
IsShort (written.Number v) = Unit {0}
IsShort (written.Raw bytes) = length bytes.now < 2 ^ 16

-- memberlist's numbers of the states of members
abbrev pub state_number : Kind → ℕ
state_number kind.Alive = 0
state_number kind.Suspect = 1
state_number kind.Confirm = 2
state_number kind.Leave = 3

-- the details of a state record
abbrev pub details_or_none : Option DetailsValue → DetailsValue
details_or_none None = no_details
details_or_none (Some details) = details
