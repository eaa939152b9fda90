use Rattle.std.proofs.Common.{Result, ap}
use Rattle.std.proofs.lemmas.Result.{err_from_is_err_and}
use Rattle.serf_message.specs.declared.fault.SerfFault.{SerfFault}
use Rattle.serf_message.specs.States.{state_after, state_from}
use Rattle.serf_message.specs.Reading.{and_then}
use Rattle.serf_message.specs.Slots.{Slots}
use Rattle.serf_message.proofs.Slotting.{fault_of}
use Rattle.serf_message.proofs.read_state.state_after.Goals as goal

pub returns-in_err-values : goal.returns-in_err-values
unfolding state_after
returns-in_err-values c =
    let p = err_from_is_err_and c.from_residual.result c.from_residual.ensures.1 in
    rw (p.1, p.2) (fault_of _ _ _ (λ e. ap (λ (r : Result Slots SerfFault). and_then r state_from) e) c.in_err-values.ensures)
