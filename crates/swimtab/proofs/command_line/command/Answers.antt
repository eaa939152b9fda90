use Rattle.std.proofs.Common.{◌≡◌, ◌∙◌, rules, ap}
use Rattle.std.proofs.lemmas.Result.{IfOk-weaker}
use Rattle.clap.specs.Simple.{app_of_fields}
use Rattle.clap.specs.Words.{app_of}
use Rattle.swimtab.specs.Words.{program}
use Rattle.swimtab.proofs.command_line.command.Goals as goal

pub returns : goal.returns
returns c =
    let added : app_of c.in_ok-add_lone.field-0 ≡ program = search rules in
    IfOk-weaker c.bin_name.result _ _ (λ whole h. ap app_of_fields h.0 ∙ added) c.bin_name.ensures
