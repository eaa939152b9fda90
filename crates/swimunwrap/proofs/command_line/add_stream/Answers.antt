use Rattle.std.proofs.Common.{◌≡◌, ◌∙◌, rules, ap, ap₂, codes}
use Rattle.std.proofs.lemmas.Result.{IfOk-weaker}
use Rattle.clap.specs.Words.{App, app_of, rule_of, new_app, with_rule, with_subcommand}
use Rattle.swimunwrap.specs.Words.{file_rule, key_rule, clear_rule, stream_command}
use Rattle.swimunwrap.proofs.command_line.add_stream.Goals as goal

pub returns : goal.returns
returns c =
    let rule : rule_of c.help-file.result ≡ file_rule = search rules in
    let named : app_of c.after_help.result ≡ new_app (codes "stream") = search rules in
    let keyed : app_of c.in_ok-arg.field-0 ≡ with_rule (new_app (codes "stream")) key_rule =
    c.in_ok-arg.ensures.shape (search rules) ∙ ap₂ with_rule named c.key_argument.ensures.rule in
    let flagged : app_of c.in_ok-arg-2.field-0 ≡ with_rule (with_rule (new_app (codes "stream")) key_rule) clear_rule =
    c.in_ok-arg-2.ensures.shape (search rules) ∙ ap₂ with_rule keyed c.clear_argument.ensures.rule in
    let stream : app_of c.in_ok-stream.stream ≡ stream_command = c.in_ok-stream.ensures.shape (search rules) ∙ ap₂ with_rule flagged rule in
    IfOk-weaker c.subcommand.result _ _
    (λ whole h. h.shape (search rules) ∙ ap (λ (a : App). with_subcommand (app_of c.args.command) a.top) stream)
    c.subcommand.ensures
