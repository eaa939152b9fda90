-- The lines of bytes, found by a search for the first line feed.
use Rattle.std.proofs.Common.{◌≡◌, ℕ, suc, ◌+◌, ◌<◌, ◌≤◌, false, List, [], ◌∷◌, Some, None, length, take, drop, get_or}
use Rattle.std.proofs.Common.{get_or-take, sym, ap, ◌∙◌, arith, add-one, length-take-le}
use Rattle.std.specs.List.{All}
use Rattle.std.proofs.lemmas.Bool.{false_from_ne_true}
use Rattle.std.proofs.lemmas.List.{get_or_default}
use Rattle.std.proofs.lemmas.List.Splits.{slice_split_none, slice_split_at, length-slice_split}
use Rattle.std.proofs.lemmas.List.Sums.{count_by-le-length}
use Rattle.std.proofs.Math.Seq.{split_at}
use Rattle.memchr.specs.Find.{IsFirstByte, Passes, is_byte}
use Rattle.swim_program.specs.Lines.{input_lines}

-- a byte that is not a line feed, whatever the default outside the bytes
no_feed : (input : List ℕ) (k d : ℕ) → k < length input → ¬ Passes (is_byte 10) input k → is_byte 10 (get_or input k d) ≡ false
no_feed input k d within other = ap (is_byte 10) (get_or_default input k d 0 within) ∙ false_from_ne_true _ other

-- the first line is before the first line feed, and the others are after it
pub first_line : (input : List ℕ) (end : ℕ) → IsFirstByte (is_byte 10) input (Some end)
    → input_lines input ≡ take end input ∷ input_lines (drop (end + 1) input)
first_line input end found =
    let before : All (λ b. is_byte 10 b ≡ false) (take end input) =
    λ k d within.
    let low : k < end = omega (arith, within, length-take-le end input (omega (arith, found.0.high))) in
    ap (is_byte 10) (get_or-take end input k d low)
    ∙ no_feed input k d (omega (arith, low, found.0.high)) (found.0.before k (omega arith) low) in
    ap input_lines (split_at input end 0 found.0.high)
    ∙ slice_split_at (is_byte 10) (take end input) _ (drop (suc end) input) before found.1
    ∙ ap (λ n. take end input ∷ input_lines (drop n input)) (sym (add-one end))

-- without a line feed all is one line
pub one_line : (input : List ℕ) → IsFirstByte (is_byte 10) input None → input_lines input ≡ input ∷ []
one_line input none = slice_split_none (is_byte 10) input (λ k d within. no_feed input k d within (none k (omega arith) within))

-- there is at most one more line than bytes
pub few_lines : (input : List ℕ) → length (input_lines input) ≤ length input + 1
few_lines input = omega (arith, length-slice_split (is_byte 10) input, count_by-le-length (is_byte 10) input)
