use Rattle.std.proofs.Common.{◌≡◌, ◌∙◌, ◌++◌, sym, ap, ap₂, map, subst}
use Rattle.std.specs.Prelude.{option_map, string_bytes}
use Rattle.std.proofs.lemmas.List.{map-append}
use Rattle.std.proofs.lemmas.Result.{err_from_is_err_and}
use Rattle.clap.specs.Words.{fault_of, found_of, is_simple, is_simple_and_free, matches_of, rows_of, subcommand_of}
use Rattle.clap.specs.Words.{subcommand_rows_of, takes}
use Rattle.clap.specs.Kinds.{HasKind}
use Rattle.swim_program.proofs.Commands.{memory_of, refusal}
use Rattle.swimunwrap.specs.Chosen.{Choice}
use Rattle.swimunwrap.specs.Words.{clear_of, either, key_words, program}
use Rattle.swimunwrap.proofs.Commands.{asks_lines, asks_stream, program_is_simple, program_is_free}
use Rattle.swimunwrap.proofs.command_line.chosen.Goals as goal

pub returns-in_err-matches-clause-takes : goal.returns-in_err-matches-clause-takes
returns-in_err-matches-clause-takes c =
    let p = err_from_is_err_and c.from_residual-in_err-matches.result c.from_residual-in_err-matches.ensures.1 in
    rw p.1
    (λ taken. memory_of c.in_err-matches.field-0.0 p.0 p.2
    (c.in_err-matches.ensures.passes (ap (λ a. takes a (map string_bytes c.args.words.now)) c.in_ok-command.ensures ∙ taken)))

pub returns-in_err-matches-clause-faulty : goal.returns-in_err-matches-clause-faulty
returns-in_err-matches-clause-faulty c =
    let p = err_from_is_err_and c.from_residual-in_err-matches.result c.from_residual-in_err-matches.ensures.1 in
    let words = map string_bytes c.args.words.now in
    let found = c.in_err-matches.ensures.kinds (ap is_simple_and_free c.in_ok-command.ensures ∙ program_is_free) in
    rw p.1
    (refusal c.in_err-matches.field-0.0 p.0 (fault_of program words) p.2
    (subst (λ a. HasKind (fault_of a words) c.in_err-matches.field-0.0) c.in_ok-command.ensures found))

pub returns-in-Some-clause-faultless : goal.returns-in-Some-clause-faultless
returns-in-Some-clause-faultless c =
    sym (ap (λ a. fault_of a (map string_bytes c.args.words.now)) c.in_ok-command.ensures)
    ∙ c.in_ok-matches.ensures.kinds (ap is_simple_and_free c.in_ok-command.ensures ∙ program_is_free)

pub returns-clause-faultless : goal.returns-clause-faultless
returns-clause-faultless c =
    sym (ap (λ a. fault_of a (map string_bytes c.args.words.now)) c.in_ok-command.ensures)
    ∙ c.in_ok-matches.ensures.kinds (ap is_simple_and_free c.in_ok-command.ensures ∙ program_is_free)

pub returns-in-Some-clause-asks : goal.returns-in-Some-clause-asks
returns-in-Some-clause-asks c =
    let words = map string_bytes c.args.words.now in
    let m = c.in_ok-matches.ensures.matches (ap is_simple c.in_ok-command.ensures ∙ program_is_simple) in
    let flags : rows_of (found_of c.in_ok-matches.matches) ≡ matches_of program words = m.0 ∙ ap
    (λ a. matches_of a words) c.in_ok-command.ensures in
    let found : subcommand_rows_of c.in_ok-matches.matches ≡ subcommand_of program words = m.1 ∙ ap
    (λ a. subcommand_of a words) c.in_ok-command.ensures in
    let before = c.in_ok-key_files.ensures ∙ ap key_words flags in
    let keys =
    ap (map string_bytes) c.in_ok-append-in-Some.ensures.items
    ∙ map-append string_bytes c.in_ok-key_files.key_files.items c.in_ok-texts_of-in-Some.field-0.items
    ∙ ap₂ (λ xs ys. xs ++ ys) before c.in_ok-texts_of-in-Some.ensures in
    let clear = c.either-clear.ensures ∙ ap₂ either (c.clear_of-clear.ensures ∙ ap clear_of flags) c.clear_of.ensures in
    asks_stream (subcommand_of program words) (matches_of program words) (rows_of (found_of c.in-Some.found.now)) c.new.result
    (c.in-Some.ensures.rows ∙ ap (option_map (λ p. p.1)) found)
    (ap (λ (r : Choice). r.verb) c.new.ensures) (ap (λ (r : Choice). r.files) c.new.ensures ∙ c.in_ok-file_of-in-Some.ensures)
    (ap (λ (r : Choice). r.key_files) c.new.ensures ∙ keys)
    (ap (λ (r : Choice). r.clear) c.new.ensures ∙ clear)

pub returns-clause-asks : goal.returns-clause-asks
returns-clause-asks c =
    let words = map string_bytes c.args.words.now in
    let m = c.in_ok-matches.ensures.matches (ap is_simple c.in_ok-command.ensures ∙ program_is_simple) in
    let flags : rows_of (found_of c.in_ok-matches.matches) ≡ matches_of program words = m.0 ∙ ap
    (λ a. matches_of a words) c.in_ok-command.ensures in
    let found : subcommand_rows_of c.in_ok-matches.matches ≡ subcommand_of program words = m.1 ∙ ap
    (λ a. subcommand_of a words) c.in_ok-command.ensures in
    asks_lines (subcommand_of program words) (matches_of program words) (rows_of (found_of c.in_ok-matches.matches)) c.new-in-None-2.result
    (c.in-None.ensures.rows ∙ ap (option_map (λ p. p.1)) found) flags
    (ap (λ (r : Choice). r.verb) c.new-in-None-2.ensures ∙ c.verb_of.ensures)
    (ap (λ (r : Choice). r.files) c.new-in-None-2.ensures ∙ ap (map string_bytes) c.new-in-None.ensures.items)
    (ap (λ (r : Choice). r.key_files) c.new-in-None-2.ensures ∙ c.in_ok-key_files.ensures)
    (ap (λ (r : Choice). r.clear) c.new-in-None-2.ensures ∙ c.clear_of-clear.ensures)
