-- What codes mean while they are written: the bytes after the words are known too.
use Rattle.std.specs.Prelude.{◌≡◌, ◌≢◌, ℕ, zero, suc, ◌+◌, ◌*◌, ◌<◌, ◌≤◌, List, [], ◌∷◌, ◌++◌, length, take, slice_index}
use Rattle.std.specs.List.{concat}
use Rattle.memberlist_wrap.specs.Lzw.{ReadsCodes}
use Rattle.memberlist_compress.specs.Slots.{slot_of}

-- the n-th word and the byte after it, if these bytes come after the words
abbrev pub longer_word : List (List ℕ) → ℕ → List ℕ → List ℕ
longer_word [] n ahead = []
longer_word (word ∷ words) zero ahead = word ++ take 1 (concat words ++ ahead)
longer_word (word ∷ words) (suc n) ahead = longer_word words n ahead

-- The code means this word after these words and before these bytes.
pub data Means (words : List (List ℕ)) (ahead : List ℕ) (code : ℕ) (word : List ℕ) : Type 0 where
  literal : code < 256 → word ≡ code ∷ [] → Means words ahead code word
  longer : (n : ℕ) → code ≡ 258 + n → n < length words → word ≡ longer_word words n ahead
      → Means words ahead code word

-- The slot has the code of a word, a byte, and the code of the word with that byte after it.
pub record SlotMeans (words : List (List ℕ)) (ahead : List ℕ) (slot : ℕ) : Type 0 where
  pub code : ℕ
  pub byte : ℕ
  pub longer : ℕ
  pub word : List ℕ
  pub is : slot ≡ slot_of code byte longer
  pub small : byte < 256
  pub narrow : longer < 4096
  pub of_code : Means words ahead code word
  pub of_longer : Means words ahead longer (word ++ byte ∷ [])

-- each slot that is used has such codes
abbrev pub SlotsMean : List (List ℕ) → List ℕ → List ℕ → Type 0
SlotsMean words ahead slots = (place : ℕ) → place < length slots → slice_index slots place ≢ 0
    → SlotMeans words ahead (slice_index slots place)

-- The bits are codes that mean these bytes, and then these are the words. There are at most 16 for
-- each byte, and 12: a code has at most 12, and 4 more for each word are left for a clear code.
pub record AreCodes (bits done : List ℕ) (words : List (List ℕ)) : Type 0 where
  pub codes : List ℕ
  pub reads : ReadsCodes [] codes bits done words []
  pub short : length bits + 4 * length words ≤ 16 * length done + 12
