use Rattle.std.specs.List.{All}
use Rattle.std.specs.String.{string_bytes}
use Rattle.swimwatch.specs.Page.{IsData}
use Rattle.swimwatch.proofs.shown.report.block.inert.Given as goal

abbrev pub invariant-loop-c : goal.invariant-loop-c
invariant-loop-c l = All IsData (string_bytes l.text)
