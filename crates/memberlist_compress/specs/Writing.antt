-- Bits in bytes.
use Rattle.std.specs.Prelude.{◌≡◌, ℕ, ◌<◌, List, ◌++◌, length}
use Rattle.memberlist_wrap.specs.Bits.{bits_of}

-- whole bytes, and the bits after them
pub record Writing : Type 0 where
  pub bytes : List ℕ
  pub held : List ℕ

-- the bits
abbrev pub written : Writing → List ℕ
written writing = bits_of writing.bytes ++ writing.held

-- The bytes are these bits, and fewer than 8 more.
pub record IsPadded (bits bytes : List ℕ) : Type 0 where
  pub padding : List ℕ
  pub short : length padding < 8
  pub is : bits_of bytes ≡ bits ++ padding
