use Rattle.std.proofs.Common.{◌∙◌}
use Rattle.clap.specs.Words.{found_of}
use Rattle.clap.proofs.WalkLemmas.{first_value-rows}
use Rattle.swimunwrap.proofs.Commands.{set_by, unset}
use Rattle.swimunwrap.proofs.command_line.is_set.Goals as goal

pub returns-in-Some : goal.returns-in-Some
returns-in-Some c =
    c.eq.ensures ∙ set_by c.get_str.result c.in-Some.word _
    (c.get_str.ensures ∙ first_value-rows (found_of c.args.matches.now) c.args.id.now) c.in-Some.is

pub returns-in-None : goal.returns-in-None
returns-in-None c =
    unset c.get_str.result _ (c.get_str.ensures ∙ first_value-rows (found_of c.args.matches.now) c.args.id.now) c.in-None.is
