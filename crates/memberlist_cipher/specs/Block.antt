-- AES, FIPS-197. A state is its 16 bytes, column by column.
use Rattle.std.specs.Prelude.{ℕ, zero, suc, ◌+◌, ◌-◌, ◌*◌, ◌/◌, ◌%◌, ◌==◌, nat_lt, if◌then◌else◌, bit_xor, List, []}
use Rattle.std.specs.Prelude.{◌∷◌, ◌++◌, length, map, slice_index, slice_range}
use Rattle.memberlist_cipher.specs.Field.{product, sub, x_to}

-- the sum of bytes, as far as both go
unfoldable pub plus_bytes : List ℕ → List ℕ → List ℕ
plus_bytes [] bs = []
plus_bytes (a ∷ as_) [] = []
plus_bytes (a ∷ as_) (b ∷ bs) = bit_xor a b ∷ plus_bytes as_ bs

-- row r is rotated by r places (5.1.2)
unfoldable pub shift_rows : List ℕ → List ℕ
shift_rows s =
    map (slice_index s) (0 ∷ 5 ∷ 10 ∷ 15 ∷ 4 ∷ 9 ∷ 14 ∷ 3 ∷ 8 ∷ 13 ∷ 2 ∷ 7 ∷ 12 ∷ 1 ∷ 6 ∷ 11 ∷ [])

-- 2 a + 3 b + c + d
unfoldable pub mix : ℕ → ℕ → ℕ → ℕ → ℕ
mix a b c d = bit_xor (bit_xor (bit_xor (product 2 a) (product 3 b)) c) d

-- each column times the matrix (5.1.3)
unfoldable pub mix_columns : List ℕ → List ℕ
mix_columns (a ∷ b ∷ c ∷ d ∷ s) =
    mix a b c d ∷ mix b c d a ∷ mix c d a b ∷ mix d a b c ∷ mix_columns s
mix_columns _ = []

-- the key of round n, in this key schedule
unfoldable pub round_key : List ℕ → ℕ → List ℕ
round_key words n = slice_range words (16 * n) (16 * n + 16)

-- SubBytes and ShiftRows
unfoldable pub scrambled : List ℕ → List ℕ
scrambled s = shift_rows (map sub s)

-- the state after the first key and n rounds (5.1)
unfoldable pub rounds : List ℕ → ℕ → List ℕ → List ℕ
rounds words zero s = plus_bytes s (round_key words 0)
rounds words (suc n) s =
    plus_bytes (mix_columns (scrambled (rounds words n s))) (round_key words (suc n))

-- n rounds, and the last one
unfoldable pub cipher : List ℕ → ℕ → List ℕ → List ℕ
cipher words n s = plus_bytes (scrambled (rounds words n s)) (round_key words (suc n))

-- a word of the key schedule
unfoldable pub word : List ℕ → ℕ → List ℕ
word words at =
    slice_index words at ∷ slice_index words (at + 1) ∷ slice_index words (at + 2)
    ∷ slice_index words (at + 3) ∷ []

-- the first byte goes to the end (5.2, RotWord)
unfoldable pub turned : List ℕ → List ℕ
turned [] = []
turned (b ∷ bs) = bs ++ b ∷ []

-- what is added to the word nk words before, for the word i (5.2)
unfoldable pub added : ℕ → ℕ → List ℕ → List ℕ
added nk i last =
    if i % nk == 0 then plus_bytes (map sub (turned last)) (x_to (i / nk - 1) ∷ 0 ∷ 0 ∷ 0 ∷ [])
    else if i % nk == 4 then (if nat_lt 6 nk then map sub last else last)
    else last

-- the next word of the key schedule
unfoldable pub next_word : ℕ → List ℕ → List ℕ
next_word nk words =
    let n = length words in
    plus_bytes (word words (n - 4 * nk)) (added nk (n / 4) (word words (n - 4)))

-- n more words
unfoldable pub expanded : ℕ → ℕ → List ℕ → List ℕ
expanded nk zero words = words
expanded nk (suc n) words = expanded nk n (words ++ next_word nk words)

-- the key schedule: 4 words for each round, and 4
unfoldable pub schedule : List ℕ → List ℕ
schedule key = let nk = length key / 4 in expanded nk (28 + 3 * nk) key

-- a block under a key
unfoldable pub aes : List ℕ → List ℕ → List ℕ
aes key = cipher (schedule key) (length key / 4 + 5)
