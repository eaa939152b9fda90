-- memberlist's message around a compression, as it is written.
use Rattle.std.specs.Prelude.{◌≡◌, ℕ, ◌^◌, ◌<◌, ◌≤◌, List, ◌∷◌, ◌++◌, length, nat_lt, codes, if◌then◌else◌}
use Rattle.byteorder.specs.Endian.{big_bytes}
use Rattle.swim_pack.specs.Spelling.{number_text, raw_text, count_text}
use Rattle.memberlist_wrap.specs.Lzw.{Lzw}
use Rattle.memberlist_wrap.specs.Wrapping.{kind}
use Rattle.memberlist_wrap.specs.Wrapping.Wrapper.{compression}

-- bytes as text, with 1, 3 or 5 bytes before them
abbrev pub raw_bytes : List ℕ → List ℕ
raw_bytes s =
    if nat_lt (length s) (2 ^ 16) then raw_text s else (0xdb ∷ big_bytes 4 (length s)) ++ s

-- the map of a compression with these compressed bytes: first `Algo`, which is 0, then `Buf`
abbrev pub map_bytes : List ℕ → List ℕ
map_bytes packed =
    count_text 2 ++ raw_text (codes "Algo") ++ number_text 0 ++ raw_text (codes "Buf")
    ++ raw_bytes packed

-- The bytes are memberlist's message around a compression of these.
pub record IsCompression (made message : List ℕ) : Type 0 where
  pub packed : List ℕ
  pub lzw : Lzw packed message
  pub small : length packed < 2 ^ 32
  pub text : made ≡ kind compression ∷ map_bytes packed

-- What is sent for the message, where messages are compressed: a compression if that is shorter, and
-- else the message. One of 2^30 bytes or more is not compressed.
pub data IsSent (message sent : List ℕ) : Type 0 where
  as_it_is : 2 ^ 30 ≤ length message → sent ≡ message → IsSent message sent
  shorter : length message < 2 ^ 30 → (made : List ℕ) → IsCompression made message
      → sent ≡ (if nat_lt (length made) (length message) then made else message)
      → IsSent message sent
