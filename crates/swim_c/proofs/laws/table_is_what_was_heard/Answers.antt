use Rattle.swim_c.proofs.Chains.{after_calls, from_nothing}
use Rattle.swim_c.proofs.laws.table_is_what_was_heard.Goals as goal

pub returns-clause-handle : goal.returns-clause-handle
returns-clause-handle c = after_calls

pub returns-clause-node : goal.returns-clause-node
returns-clause-node c = from_nothing
