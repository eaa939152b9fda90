use Rattle.std.proofs.Common.{◌∙◌, Err, ap, rules}
use Rattle.swim_c.proofs.Faults.{refute_done}
use Rattle.swim_c.proofs.refuting.refute.Goals as goal

pub returns-in-Err-clause-refutes : goal.returns-in-Err-clause-refutes
returns-in-Err-clause-refutes c = rw (c.unmade-in-Err.ensures, c.number.ensures) (refute_done _ _ c.in-Err.fault (search rules)
    (λ e. c.refute.ensures.exhausted (c.in-Err.is ∙ ap Err e)) (λ at e. c.refute.ensures.gone at (c.in-Err.is ∙ ap Err e))
    (λ e. c.refute.ensures.memory (c.in-Err.is ∙ ap Err e)))
