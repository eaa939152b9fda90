use Rattle.swim_sync.proofs.Completed.{any_end, both_joined, both_took, side}
use Rattle.swim_sync.proofs.laws.completed_exchange.Goals as goal

pub returns-clause-joins : goal.returns-clause-joins
returns-clause-joins c = both_joined

pub returns-clause-all : goal.returns-clause-all
returns-clause-all c = both_took

pub returns-clause-side : goal.returns-clause-side
returns-clause-side c = side

pub returns-clause-any_end : goal.returns-clause-any_end
returns-clause-any_end c = any_end
