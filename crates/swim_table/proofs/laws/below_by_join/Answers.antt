use Rattle.swim_table.proofs.Showing.{below_join, below_both}
use Rattle.swim_table.proofs.laws.below_by_join.Goals as goal

pub returns-clause-join : goal.returns-clause-join
returns-clause-join c = below_join

pub returns-clause-same : goal.returns-clause-same
returns-clause-same c = below_both
