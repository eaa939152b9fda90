-- The prefix of a name as a number.
use Rattle.std.specs.Prelude.{◌≡◌, ℕ, ◌<◌, List, drop, slice_index}
use Rattle.byteorder.specs.Endian.{big_number}
use Rattle.memberlist_view.specs.declared.prefix.Prefix.{Prefix}

-- the first eight bytes as a big-endian number, with a zero for each byte that is missing
unfoldable pub eight_bytes : List ℕ → ℕ
eight_bytes name = big_number 8 name

-- the first eight bytes of the name, and the next eight
pub record IsPrefixOf (prefix : Prefix) (name : List ℕ) : Type 0 where
  pub bytes : (i : ℕ) → slice_index name i < 256
  pub high : prefix.high ≡ eight_bytes name
  pub low : prefix.low ≡ eight_bytes (drop 8 name)
