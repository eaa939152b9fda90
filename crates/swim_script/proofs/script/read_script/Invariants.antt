use Rattle.std.proofs.Common.{map}
use Rattle.swim_script.proofs.ScriptNumbers.{WereRead}
use Rattle.swim_script.proofs.script.read_script.Given as goal

abbrev pub invariant-loop-index : goal.invariant-loop-index
invariant-loop-index l =
    (goal.iterator-loop-index).can_next l.index-iterator ×
    (goal.iterator-loop-index).is_finite l.index-iterator ×
    WereRead (map (λ p. p.1.now) l.yielded) l.plan
