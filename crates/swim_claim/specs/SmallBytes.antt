-- Bytes that are stored inline, or in memory of their own.
use Rattle.std.specs.Prelude.{ℕ, List, [], ◌∷◌}

-- those on the heap, or if there are none those inline
abbrev pub small_bytes : List ℕ → List ℕ → List ℕ
small_bytes inline [] = inline
small_bytes inline (byte ∷ bytes) = byte ∷ bytes
