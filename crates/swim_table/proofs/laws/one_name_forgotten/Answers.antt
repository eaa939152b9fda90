use Rattle.swim_table.proofs.Forgetting.{forgotten, others_stay}
use Rattle.swim_table.proofs.laws.one_name_forgotten.Goals as goal

pub returns-clause-gone : goal.returns-clause-gone
returns-clause-gone c = forgotten

pub returns-clause-others : goal.returns-clause-others
returns-clause-others c = others_stay
