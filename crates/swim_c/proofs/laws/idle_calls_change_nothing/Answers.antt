use Rattle.swim_c.proofs.IdleCalls.{idle_stays, idle_hears_nothing}
use Rattle.swim_c.proofs.laws.idle_calls_change_nothing.Goals as goal

pub returns-clause-node : goal.returns-clause-node
returns-clause-node c = idle_stays

pub returns-clause-heard : goal.returns-clause-heard
returns-clause-heard c = idle_hears_nothing
