use Rattle.std.proofs.Common.{◌≢◌, List, ℕ, subst}
use Rattle.std.specs.Prelude.{IfErr}
use Rattle.swim_program.specs.declared.report.What.TheVariants.{Memory}
use Rattle.swimtab.specs.Lines.{TellsText}
use Rattle.swimtab.proofs.packets.take_line.Goals as goal

pub returns-clause-tells : goal.returns-clause-tells
returns-clause-tells c =
    subst (λ (text : List ℕ). IfErr c.take_text.result
    (λ what. what ≢ Memory → TellsText text what)) c.without_return.ensures c.take_text.ensures.tells
