use Rattle.std.proofs.Common.{◌≡◌, ◌∙◌, rules, ap, ap₂}
use Rattle.std.proofs.lemmas.Result.{IfOk-weaker}
use Rattle.clap.specs.Simple.{app_of_fields}
use Rattle.clap.specs.Words.{App, app_of, rule_of, with_rule, with_subcommand}
use Rattle.swimunwrap.specs.Words.{program, bare, skip_rule, key_rule, clear_rule, stream_command}
use Rattle.swimunwrap.proofs.command_line.command.Goals as goal

pub returns : goal.returns
returns c =
    let rule : rule_of c.help-skip.result ≡ skip_rule = search rules in
    let skipping : app_of c.in_ok-with_skip.with_skip ≡ with_rule bare skip_rule =
    c.in_ok-with_skip.ensures.shape (search rules) ∙ ap₂ with_rule c.lone_program.ensures rule in
    let keyed : app_of c.in_ok-with_keys.with_keys ≡ with_rule (with_rule bare skip_rule) key_rule =
    c.in_ok-with_keys.ensures.shape (search rules) ∙ ap₂ with_rule skipping c.key_argument.ensures.rule in
    let flagged : app_of c.in_ok-with_flags.with_flags ≡ with_rule (with_rule (with_rule bare skip_rule) key_rule) clear_rule =
    c.in_ok-with_flags.ensures.shape (search rules) ∙ ap₂ with_rule keyed c.clear_argument.ensures.rule in
    let added : app_of c.in_ok-add_stream.field-0 ≡ program = c.in_ok-add_stream.ensures ∙ ap
    (λ (a : App). with_subcommand a stream_command.top) flagged in
    IfOk-weaker c.bin_name.result _ _ (λ whole h. ap app_of_fields h.0 ∙ added) c.bin_name.ensures
