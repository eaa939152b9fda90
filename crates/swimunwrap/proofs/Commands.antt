-- The command and the flags that `clap` is given.
use Rattle.std.proofs.Common.{◌≡◌, ◌∙◌, List, [], ◌∷◌, ◌++◌, Bool, Option, Some, None, Bor, ℕ, refl, true, false, ap, codes, sym}
use Rattle.std.specs.Prelude.{◌≢◌, option_map, if◌then◌else◌}
use Rattle.std.specs.Str.{bytes_eq}
use Rattle.std.proofs.lemmas.Slice.Eq.{bytes_eq-Decides}
use Rattle.clap.specs.Words.{Row, Text, first_of, is_simple, is_simple_and_free}
use Rattle.clap.proofs.OnLiterals.{clap_on_literals}
use Rattle.swimunwrap.specs.Chosen.{Choice}
use Rattle.swimunwrap.specs.declared.verb.Verb.TheVariants as verb
use Rattle.memberlist_transport.specs.declared.in_the_clear.InTheClear.{InTheClear}
use Rattle.swimunwrap.specs.Words.{ParsesTo, at_most_one, clear_of, either, is_true, key_words, program, verb_of}

-- this program is one whose matches `clap` specifies
pub program_is_simple : is_simple program ≡ true
unfolding clap_on_literals
program_is_simple = refl

-- and one whose faults it specifies
pub program_is_free : is_simple_and_free program ≡ true
unfolding clap_on_literals
program_is_free = refl

-- the choice is what the arguments ask for, if they name the command
pub asks_stream : (o : Option (Text × List Row)) (flags rows : List Row) (choice : Choice)
    → Some rows ≡ option_map (λ p. p.1) o → choice.verb ≡ verb.Stream
    → choice.files ≡ at_most_one (first_of (codes "FILE") rows) → choice.key_files ≡ key_words flags ++ key_words rows
    → choice.clear ≡ either (clear_of flags) (clear_of rows) → ParsesTo o flags choice
asks_stream None flags rows choice found verb files keys clear = absurd cc
asks_stream (Some p) flags rows choice found verb files keys clear =
    let same : rows ≡ p.1 = cc in (
      verb,
      files ∙ ap (λ r. at_most_one (first_of (codes "FILE") r)) same,
      keys ∙ ap (λ r. key_words flags ++ key_words r) same,
      clear ∙ ap (λ r. either (clear_of flags) (clear_of r)) same,
    )

-- and if they do not
pub asks_lines : (o : Option (Text × List Row)) (flags rows : List Row) (choice : Choice)
    → None ≡ option_map (λ (p : Text × List Row). p.1) o → rows ≡ flags
    → choice.verb ≡ verb_of rows → choice.files ≡ [] → choice.key_files ≡ key_words rows
    → choice.clear ≡ clear_of rows → ParsesTo o flags choice
asks_lines None flags rows choice none same verb files keys clear = (
  verb ∙ ap verb_of same,
  files,
  keys ∙ ap key_words same,
  clear ∙ ap clear_of same,
)
asks_lines (Some p) flags rows choice none same verb files keys clear = absurd cc

-- ---- a flag, from what `clap` returns

pub set_by : (o : Option (Bor (List ℕ))) (word : Bor (List ℕ)) (flag : Option Text) → option_map (λ s. s.now) o ≡ flag → o ≡ Some word
    → bytes_eq word.now (codes "true") ≡ is_true flag
set_by o word flag read is = ap is_true (sym (ap (option_map (λ s. s.now)) is) ∙ read)

pub unset : (o : Option (Bor (List ℕ))) (flag : Option Text) → option_map (λ s. s.now) o ≡ flag → o ≡ None → false ≡ is_true flag
unset o flag read is = ap is_true (sym (ap (option_map (λ s. s.now)) is) ∙ read)

-- ---- the file, from what `clap` returns

pub one_file : (o : Option (Bor (List ℕ))) (word : Bor (List ℕ)) (found : Option Text) (text : List ℕ) → option_map
    (λ s. s.now) o ≡ found → o ≡ Some word → text ≡ word.now
    → text ∷ [] ≡ at_most_one found
one_file o word found text read is same =
    let said : found ≡ Some word.now = sym read ∙ ap (option_map (λ s. s.now)) is in rw said (ap (λ t. t ∷ []) same)

pub no_file : (o : Option (Bor (List ℕ))) (found : Option Text) → option_map (λ s. s.now) o ≡ found → o ≡ None → [] ≡ at_most_one found
no_file o found read is =
    let said : found ≡ None = sym read ∙ ap (option_map (λ s. s.now)) is in rw said refl
