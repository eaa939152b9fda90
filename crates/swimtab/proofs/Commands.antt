-- The commands that are passed to `clap`.
use Rattle.std.proofs.Common.{◌≡◌, ◌∙◌, inl, inr, List, [], ◌∷◌, Option, Some, None, refl, true, ap, codes, sym}
use Rattle.std.specs.Prelude.{◌≢◌, option_map, unwrap_or}
use Rattle.clap.specs.Matches.{subcommand_name_of}
use Rattle.clap.specs.Simple.{argument_words, built, names_of}
use Rattle.clap.specs.Walk.{all_of, stop_after}
use Rattle.clap.specs.Words.{Row, Text, is_simple, is_simple_and_free, subcommand_of, subcommand_rows_of}
use Rattle.clap.specs.declared.parser.matches.ArgMatches.{ArgMatches}
use Rattle.clap.specs.declared.parser.matches.ArgMatches.TheViews.{out-ArgMatches}
use Rattle.clap.proofs.OnLiterals.{clap_on_literals}
use Rattle.swim_program.proofs.Commands.{IsIn, is_command, names_agree}
use Rattle.swimtab.specs.Chosen.{Choice}
use Rattle.swimtab.specs.Words.{ParsesTo, program, verb_of}

-- the words of this program are among those whose matches `clap` specifies
pub program_is_simple : is_simple program ≡ true
unfolding clap_on_literals
program_is_simple = refl

-- and among those whose faults it specifies
pub program_is_free : is_simple_and_free program ≡ true
unfolding clap_on_literals
program_is_free = refl

has_verb : (n : Text) → IsIn (codes "list" ∷ codes "merge" ∷ codes "relate" ∷ codes "loop" ∷ codes "run" ∷ []) n → verb_of n ≢ None
has_verb n (inl e) none = let bad : verb_of (codes "list") ≡ None = ap verb_of (sym e) ∙ none in absurd cc
has_verb n (inr (inl e)) none = let bad : verb_of (codes "merge") ≡ None = ap verb_of (sym e) ∙ none in absurd cc
has_verb n (inr (inr (inl e))) none = let bad : verb_of (codes "relate") ≡ None = ap verb_of (sym e) ∙ none in absurd cc
has_verb n (inr (inr (inr (inl e)))) none = let bad : verb_of (codes "loop") ≡ None = ap verb_of (sym e) ∙ none in absurd cc
has_verb n (inr (inr (inr (inr (inl e))))) none = let bad : verb_of (codes "run") ≡ None = ap verb_of (sym e) ∙ none in absurd cc
has_verb n (inr (inr (inr (inr (inr h))))) none = h

-- a command that was found has a verb
pub found_verb : (m : ArgMatches) (words : List Text) (n : Text) → subcommand_rows_of m ≡ subcommand_of program words
    → Some n ≡ subcommand_name_of m → verb_of n ≢ None
found_verb m words n rows name =
    has_verb n
    (is_command (built program) n
    (stop_after (built program).top.rules (names_of (built program)) (argument_words program words))
    (ap (option_map (λ p. p.0)) (sym rows) ∙ names_agree (out-ArgMatches m).subcommand ∙ sym name))

asked : (o : Option (Text × List Row)) (n : Text) (rows : List Row) (choice : Choice)
    → option_map (λ p. p.0) o ≡ Some n → option_map (λ p. p.1) o ≡ Some rows
    → verb_of n ≡ Some choice.verb → choice.files ≡ unwrap_or (all_of (codes "FILE") rows) [] → ParsesTo o choice
asked None n rows choice name found verb files = absurd cc
asked (Some p) n rows choice name found verb files =
    let first : p.0 ≡ n = cc in
    let second : p.1 ≡ rows = cc in
    (ap verb_of first ∙ verb, files ∙ ap (λ r. unwrap_or (all_of (codes "FILE") r) []) (sym second))

-- what is chosen is what the words ask for
pub asks : (m : ArgMatches) (words : List Text) (n : Text) (rows : List Row) (choice : Choice)
    → subcommand_rows_of m ≡ subcommand_of program words
    → Some n ≡ subcommand_name_of m → Some rows ≡ option_map (λ p. p.1) (subcommand_rows_of m)
    → verb_of n ≡ Some choice.verb → choice.files ≡ unwrap_or (all_of (codes "FILE") rows) []
    → ParsesTo (subcommand_of program words) choice
asks m words n rows choice is name found verb files =
    rw (sym is) (asked (subcommand_rows_of m) n rows choice (names_agree (out-ArgMatches m).subcommand ∙ sym name) (sym found) verb files)
