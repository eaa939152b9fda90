-- Wrappers around messages: checksums, compressions and labels.
use Rattle.std.specs.Prelude.{◌≡◌, ◌≢◌, ℕ, ◌≤◌, List, [], ◌∷◌, ◌++◌, length}
use Rattle.byteorder.specs.Endian.{big_number}
use Rattle.swim_wire.specs.Compression.{CompressionText}
use Rattle.memberlist_cipher.specs.Label.{IsLabelText}
use Rattle.memberlist_wrap.specs.Crc.{IsCrc}
use Rattle.memberlist_wrap.specs.Lzw.{Lzw}

-- A wrapper around a message: a compression, a checksum or a label.
pub data Wrapper : Type 0 where
  compression checksum label : Wrapper

-- the byte that a wrapper starts with
abbrev pub kind : Wrapper → ℕ
kind compression = 9
kind checksum = 12
kind label = 244

-- what the map of a compression is a compression of, at most limit bytes
pub record CompressedText (limit : ℕ) (bytes inner : List ℕ) : Type 0 where
  pub packed : List ℕ
  pub map : CompressionText bytes packed
  pub lzw : Lzw packed inner
  pub within : length inner ≤ limit

-- four bytes with the CRC-32 of the rest, the highest first
pub record CheckedText (bytes inner : List ℕ) : Type 0 where
  pub digits : List ℕ
  pub size : length digits ≡ 4
  pub crc : IsCrc inner (big_number 4 digits)
  pub text : bytes ≡ digits ++ inner

-- what follows a wrapper's first byte, around these bytes
abbrev pub WrapText : ℕ → Wrapper → List ℕ → List ℕ → Type 0
WrapText limit compression rest inner = CompressedText limit rest inner
WrapText limit checksum rest inner = CheckedText rest inner
WrapText limit label rest inner = (name : List ℕ) × IsLabelText (kind label ∷ rest) name inner

-- The bytes are these wrappers, the outer one first, around the inner bytes. Nothing compressed has
-- more bytes than the limit.
abbrev pub Wrapped : ℕ → List Wrapper → List ℕ → List ℕ → Type 0
Wrapped limit [] bytes inner = bytes ≡ inner
Wrapped limit (w ∷ ws) bytes inner =
    (rest : List ℕ) × (mid : List ℕ) × (bytes ≡ kind w ∷ rest) × WrapText limit w rest mid
    × Wrapped limit ws mid inner

-- the bytes do not start with a wrapper
abbrev pub IsBare : List ℕ → Type 0
IsBare bytes = (w : Wrapper) (rest : List ℕ) → bytes ≢ kind w ∷ rest

-- The bytes are these wrappers around the message, and neither it nor anything compressed is longer
-- than the limit.
pub record Wraps (limit : ℕ) (ws : List Wrapper) (bytes message : List ℕ) : Type 0 where
  pub wrapped : Wrapped limit ws bytes message
  pub bare : IsBare message
  pub within : length message ≤ limit

-- The bytes are the message in at most depth wrappers.
pub record UnwrapsIn (depth limit : ℕ) (bytes message : List ℕ) : Type 0 where
  pub wrappers : List Wrapper
  pub few : length wrappers ≤ depth
  pub wraps : Wraps limit wrappers bytes message

-- The bytes are the message in at most 4 wrappers.
abbrev pub Unwraps : ℕ → List ℕ → List ℕ → Type 0
Unwraps limit bytes message = UnwrapsIn 4 limit bytes message
