-- The map of a compressed message: which bytes it carries, and its reading.
use Rattle.std.specs.Prelude.{◌≡◌, ◌⊎◌, ℕ, List, [], ◌∷◌, length, Result, Ok, Err}
use Rattle.swim_pack.specs.Composing.{◌>>=◌, gives}
use Rattle.swim_wire.specs.declared.fault.WireFault.{WireFault}
use Rattle.swim_wire.specs.declared.fault.WireFault.TheVariants.{Memory}
use Rattle.swim_wire.specs.declared.layout.Key.TheVariants as keys
use Rattle.swim_wire.specs.declared.layout.Limit.TheVariants as limits
use Rattle.swim_wire.specs.Keys.{key_text}
use Rattle.swim_wire.specs.Layout.{Layout, Pairs, MapText, raw_of}
use Rattle.swim_wire.specs.Places.{compression_buf}
use Rattle.swim_wire.specs.Reading.{Reading, map_at, raw_in, nothing_after}

-- memberlist's compress: `Algo` is 0, for LZW, and the number is the maximum length of `Buf`, the
-- compressed bytes
abbrev pub compression_layout : ℕ → Layout
compression_layout limit =
    (key_text keys.Algo, limits.Number 0) ∷ (key_text keys.Buf, limits.Raw limit) ∷ []

-- The bytes b are the map of a compression with these compressed bytes, which are no longer than
-- the map.
pub record CompressionText (b packed : List ℕ) : Type 0 where
  pub pairs : Pairs
  pub text : MapText (compression_layout (length b)) b pairs
  pub packed_is : packed ≡ raw_of keys.Buf pairs

-- the reading of such a map
unfoldable pub compression_at : ℕ → Reading (List ℕ)
compression_at limit = do
  slots ← map_at (compression_layout limit)
  gives (raw_in slots compression_buf)

-- the compressed bytes of a map with nothing after it
abbrev pub whole_compression : List ℕ → Result (List ℕ) WireFault
whole_compression bytes = nothing_after (compression_at (length bytes) bytes)

-- the result, seen by view, is this one, unless memory ran out
abbrev pub ShowsUnlessMemory : {X V : Type 0} → (X → V) → Result V WireFault → Result X WireFault
    → Type 0
ShowsUnlessMemory view wanted (Ok x) = wanted ≡ Ok (view x)
ShowsUnlessMemory view wanted (Err error) = (wanted ≡ Err error) ⊎ (error ≡ Memory)
