use Rattle.std.proofs.Common.{◌≡◌, ◌∙◌, rules, ap, ap₂, codes, true, Some}
use Rattle.std.proofs.lemmas.Result.{IfOk-weaker}
use Rattle.clap.specs.Lexer.{usize_max}
use Rattle.clap.specs.Words.{Rule, app_of, rule_of, new_app, new_rule, with_rule}
use Rattle.swimtab.specs.Words.{beside, files_rule, files_command}
use Rattle.swim_program.proofs.Commands.{some_of}
use Rattle.swimtab.proofs.command_line.add_files.Goals as goal

pub returns : goal.returns
returns c =
    let one : c.num_args-files.result.num_vals ≡ Some
    (record { start_inclusive = 1; end_inclusive = usize_max }) = some_of _ _
    c.num_args-files.ensures.1 in
    let required : rule_of c.required.result ≡ record (new_rule (codes "FILE")) { required = true } = search rules in
    let rule : rule_of c.num_args-files.result ≡ files_rule = ap rule_of c.num_args-files.ensures.0
    ∙ ap (λ n. record (rule_of c.required.result) { range = n }) one
    ∙ ap (λ (r : Rule). record r { range = Some (record { start_inclusive = 1; end_inclusive = usize_max }) }) required in
    let named : app_of c.after_help.result ≡ new_app c.args.page.name.now = search rules in
    let added : app_of c.in_ok-added.added ≡ files_command c.args.page.name.now = c.in_ok-added.ensures.shape
    (search rules) ∙ ap₂ with_rule named rule in
    IfOk-weaker c.subcommand.result _ _ (λ whole h. h.shape (search rules) ∙ ap (beside (app_of c.args.command)) added) c.subcommand.ensures
