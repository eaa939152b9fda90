-- Words as parts of the output.
use Rattle.std.specs.Prelude.{ℕ, suc, ◌-◌, ◌<◌, ◌≤◌, List, [], ◌∷◌, ◌++◌, length, take, drop, slice_index}

-- places of words that are kept
abbrev pub max_starts : ℕ
max_starts = 3840

-- the output, and the words since the last clear code
pub record DecoderState : Type 0 where
  pub output : List ℕ
  pub words : List (List ℕ)

-- where the next word starts, or the end
abbrev pub next_start : ℕ → List ℕ → ℕ
next_start end [] = end
next_start end (start ∷ starts) = start

-- the words that start at these places, each up to the next
abbrev pub words_at : List ℕ → List ℕ → List (List ℕ)
words_at output [] = []
words_at output (start ∷ starts) =
    take (next_start (length output) starts - start) (drop start output) ∷ words_at output starts

-- the state of the decoder: the place after the words that are kept ends the last of them
abbrev pub decoder_state : List ℕ → List ℕ → DecoderState
decoder_state output starts = record { output = output; words = take 3839 (words_at output starts) }

-- the places ascend, and there is a byte at each
pub record AreStarts (end : ℕ) (starts : List ℕ) : Type 0 where
  pub ascending : (k : ℕ) → suc k < length starts
      → slice_index starts k < slice_index starts (suc k)
  pub inside : (k : ℕ) → k < length starts → slice_index starts k < end

-- this many places are kept, and they ascend so
abbrev pub AreKept : ℕ → List ℕ → Type 0
AreKept end starts = AreStarts end starts × (length starts ≤ max_starts)

-- a part of the output, and the byte after it, which may be the part's own first
abbrev pub again : List ℕ → ℕ → ℕ → List ℕ
again output from to =
    let part = take (to - from) (drop from output) in
    part ++ slice_index (output ++ part) to ∷ []
