use Rattle.std.proofs.Common.{◌∙◌, sym, ap, map, subst}
use Rattle.std.specs.Prelude.{string_bytes}
use Rattle.std.proofs.lemmas.Result.{err_from_is_err_and}
use Rattle.clap.specs.Words.{fault_of, is_simple, is_simple_and_free, subcommand_of, takes}
use Rattle.clap.specs.Kinds.{HasKind}
use Rattle.swimtab.specs.Words.{program}
use Rattle.swim_program.proofs.Commands.{memory_of, refusal}
use Rattle.swimtab.proofs.Commands.{program_is_simple, program_is_free, found_verb}
use Rattle.swimtab.proofs.command_line.chosen.Goals as goal

pub returns-in_err-matches-clause-takes : goal.returns-in_err-matches-clause-takes
returns-in_err-matches-clause-takes c =
    let p = err_from_is_err_and c.from_residual-in_err-matches.result c.from_residual-in_err-matches.ensures.1 in
    rw p.1
    (λ taken. memory_of c.in_err-matches.field-0.0 p.0 p.2
    (c.in_err-matches.ensures.passes (ap (λ a. takes a (map string_bytes c.args.words.now)) c.in_ok-command.ensures ∙ taken)))

pub returns-in_err-matches-clause-faulty : goal.returns-in_err-matches-clause-faulty
returns-in_err-matches-clause-faulty c =
    let p = err_from_is_err_and c.from_residual-in_err-matches.result c.from_residual-in_err-matches.ensures.1 in
    let words = map string_bytes c.args.words.now in
    let found = c.in_err-matches.ensures.kinds (ap is_simple_and_free c.in_ok-command.ensures ∙ program_is_free) in
    rw p.1
    (refusal c.in_err-matches.field-0.0 p.0 (fault_of program words) p.2
    (subst (λ a. HasKind (fault_of a words) c.in_err-matches.field-0.0) c.in_ok-command.ensures found))

pub returns-in-Some-named-clause-faultless : goal.returns-in-Some-named-clause-faultless
returns-in-Some-named-clause-faultless c =
    sym (ap (λ a. fault_of a (map string_bytes c.args.words.now)) c.in_ok-command.ensures)
    ∙ c.in_ok-matches.ensures.kinds (ap is_simple_and_free c.in_ok-command.ensures ∙ program_is_free)

pub unreachable-requires : goal.unreachable-requires
unreachable-requires c =
    let m = c.in_ok-matches.ensures.matches (ap is_simple c.in_ok-command.ensures ∙ program_is_simple) in
    let words = map string_bytes c.args.words.now in
    found_verb c.in_ok-matches.matches words c.in-Some.name.now (m.1 ∙ ap (λ a. subcommand_of a words) c.in_ok-command.ensures)
    c.in-Some.ensures.name (sym c.named.ensures ∙ c.in-None-named.is)
