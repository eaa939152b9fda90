-- LZW as Go's compress/lzw writes it, the lowest bit first and literals of 8 bits: which bytes are
-- the compression of which.
use Rattle.std.specs.Prelude.{◌≡◌, ℕ, ◌+◌, ◌^◌, ◌<◌, ◌⊎◌, List, [], ◌∷◌, ◌++◌, length, take, nat_lt, if◌then◌else◌}
use Rattle.std.specs.List.{concat}
use Rattle.memberlist_wrap.specs.Bits.{bits, bits_of}

-- The codes 0 to 255 are the bytes, 256 resets the dictionary and 257 ends. From 258 on they are
-- the words that the codes since the last 256 made. The greatest code is 4095.

-- the words and one more, as long as a code can name it or the one before
abbrev pub kept_words : List (List ℕ) → List ℕ → List (List ℕ)
kept_words words word = take 3839 (words ++ word ∷ [])

-- how many bits a code has after this many words
abbrev pub width : ℕ → ℕ
width n = if nat_lt n 255 then 9 else if nat_lt n 767 then 10 else if nat_lt n 1791 then 11 else 12

-- The code means this word after these words. The code 258 is the first word and the byte after it,
-- 259 the second word and the byte after that, and so on: a byte that may be the new word's own.
pub data StandsFor (words : List (List ℕ)) (code : ℕ) (word : List ℕ) : Type 0 where
  literal : code < 256 → word ≡ code ∷ [] → StandsFor words code word
  again : (before : List (List ℕ)) (old : List ℕ) (after : List (List ℕ))
      → words ≡ before ++ old ∷ after → code ≡ 258 + length before
      → word ≡ old ++ take 1 (concat after ++ word) → StandsFor words code word

-- After these words the bits start with these codes, each with its lowest bit first, which mean
-- these bytes; after them the words are `after`, and the rest of the bits is left.
abbrev pub ReadsCodes : List (List ℕ) → List ℕ → List ℕ → List ℕ → List (List ℕ) → List ℕ → Type 0
ReadsCodes words [] all out after rest = (out ≡ []) × (after ≡ words) × (rest ≡ all)
ReadsCodes words (code ∷ codes) all out after rest =
    (more : List ℕ) × (all ≡ bits (width (length words)) code ++ more)
    × (code < 2 ^ width (length words))
    × (((code ≡ 256) × ReadsCodes [] codes more out after rest)
    ⊎ ((word : List ℕ) × (tail : List ℕ) × StandsFor words code word
    × ReadsCodes (kept_words words word) codes more tail after rest × (out ≡ word ++ tail)))

-- The bytes start with codes that mean these bytes; then these are the words, and these bits are
-- left.
pub record CodesGive (bytes out : List ℕ) (words : List (List ℕ)) (rest : List ℕ) : Type 0 where
  pub codes : List ℕ
  pub reads : ReadsCodes [] codes (bits_of bytes) out words rest

-- a code in the bits after these words, and what follows it
pub record NextCode (words : List (List ℕ)) (rest : List ℕ) (code : ℕ)
    (more : List ℕ) : Type 0 where
  pub is : rest ≡ bits (width (length words)) code ++ more
  pub below : code < 2 ^ width (length words)

-- The bits are the code 257 after these words, and fewer than 8 more.
pub record Ends (words : List (List ℕ)) (rest : List ℕ) : Type 0 where
  pub padding : List ℕ
  pub code : rest ≡ bits (width (length words)) 257 ++ padding
  pub short : length padding < 8

-- The bytes are a compression of these.
pub record Lzw (bytes out : List ℕ) : Type 0 where
  pub words : List (List ℕ)
  pub rest : List ℕ
  pub reaches : CodesGive bytes out words rest
  pub ends : Ends words rest
