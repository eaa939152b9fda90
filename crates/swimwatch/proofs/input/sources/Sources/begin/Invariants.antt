use Rattle.swimwatch.specs.Yielded.{AllWait}
use Rattle.swimwatch.proofs.input.sources.Sources.begin.Given as goal

abbrev pub invariant-loop-word : goal.invariant-loop-word
invariant-loop-word l = AllWait l.sources
