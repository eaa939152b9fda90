use Rattle.swim_c.proofs.Known.{taken, told, forgotten}
use Rattle.swim_c.proofs.laws.noted_names_are_known.Goals as goal

pub returns-clause-taken : goal.returns-clause-taken
returns-clause-taken c = taken

pub returns-clause-told : goal.returns-clause-told
returns-clause-told c = told

pub returns-clause-forgotten : goal.returns-clause-forgotten
returns-clause-forgotten c = forgotten
