-- The state of the decoder after one more word.
use Rattle.std.proofs.Common.{◌≡◌, ℕ, ◌<◌, ◌≤◌, inl, inr, false, ltb, le-ltb, List, [], ◌∷◌, ◌++◌, length, take, refl, sym, ap, ◌∙◌, arith}
use Rattle.std.proofs.lemmas.Bool.{cases_lt}
use Rattle.std.proofs.lemmas.List.{length-append, length-take}
use Rattle.memberlist_wrap.specs.Lzw.{kept_words, width}
use Rattle.memberlist_wrap.specs.Dictionary.{DecoderState, decoder_state, words_at, AreKept}
use Rattle.memberlist_wrap.proofs.Cutting.{AreStarts-kept, AreStarts-longer, words_at_kept, length-words_at}

abbrev of : List ℕ → List (List ℕ) → DecoderState
of output words = record { output = output; words = words }

-- what is seen after a word and its place were appended
pub made_kept : (output starts v output' starts' : List ℕ) (n : ℕ) (now : DecoderState) → n ≡ length output
    → decoder_state output starts ≡ now → AreKept (length output) starts
    → output' ≡ output ++ v → starts' ≡ take 3840 (starts ++ n ∷ [])
    → decoder_state output' starts' ≡ of (now.output ++ v) (kept_words now.words v)
made_kept output starts v output' starts' n now end seen are e f =
    ap (λ o. decoder_state o starts') e
    ∙ ap (λ s. decoder_state (output ++ v) s) (f ∙ ap (λ k. take 3840 (starts ++ k ∷ [])) end)
    ∙ ap (λ ws. of (output ++ v) ws) (words_at_kept 3839 output v starts are.0 are.1)
    ∙ ap (λ (m : DecoderState). of (m.output ++ v) (kept_words m.words v)) seen

-- the places are kept
pub AreKept-kept : (output v output' starts starts' : List ℕ) (n : ℕ) → n ≡ length output → AreKept (length output) starts
    → output' ≡ output ++ v → 0 < length v
    → starts' ≡ take 3840 (starts ++ n ∷ []) → AreKept (length output') starts'
AreKept-kept output v output' starts starts' n end are e some f =
    let places = f ∙ ap (λ k. take 3840 (starts ++ k ∷ [])) end in
    let up : length output < length output' = omega (arith, ap length e, length-append output v) in
    rw places (
      AreStarts-kept 3840 (length output) (length output') starts are.0 up,
      omega (arith, length-take 3840 (starts ++ length output ∷ [])),
    )

-- they stay if only bytes are output
pub AreKept-longer : (end more : ℕ) (starts starts' : List ℕ) → AreKept end starts → end ≤ more → starts' ≡ starts → AreKept more starts'
AreKept-longer end more starts starts' are up same = rw same (AreStarts-longer end more starts are.0 up, are.1)

-- how many words are seen
pub few_words : (output starts : List ℕ) (now : DecoderState) → decoder_state output starts ≡ now → length now.words ≤ length starts
few_words output starts now seen = omega (
  arith,
  ap (λ (m : DecoderState). length m.words) seen,
  length-take 3839 (words_at output starts),
  length-words_at output starts,
)

width_most : (n : ℕ) → 3839 ≤ n → width n ≡ 12
width_most n many =
    let first : ltb n 255 ≡ false = le-ltb _ _ (omega arith) in
    let second : ltb n 767 ≡ false = le-ltb _ _ (omega arith) in
    let third : ltb n 1791 ≡ false = le-ltb _ _ (omega arith) in
    rw (first, second, third) refl

-- a code is as wide after all places as after the words that are kept
pub width_kept : (output starts : List ℕ) (now : DecoderState) → decoder_state output starts ≡ now
    → width (length starts) ≡ width (length now.words)
width_kept output starts now seen =
    let size : length now.words ≡ length (take 3839 (words_at output starts)) = ap (λ (m : DecoderState). length m.words) (sym seen) in
    let kept_size = length-take 3839 (words_at output starts) in
    let all = length-words_at output starts in
    elim (cases_lt (length starts) 3840) [
      | inl few ↦ let same : length starts ≡ length now.words = omega arith in ap width same
      | inr many ↦
          let most : length now.words ≡ 3839 = omega arith in
          width_most (length starts) (omega arith) ∙ sym (width_most 3839 (omega arith)) ∙ ap width (sym most)
    ]
