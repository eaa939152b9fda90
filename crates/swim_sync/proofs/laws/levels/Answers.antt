use Rattle.std.proofs.Common.{length}
use Rattle.swim_table.proofs.Tables.{TableOf-unique}
use Rattle.swim_sync.specs.Heard.{heard, heard_by}
use Rattle.swim_sync.specs.Levels.{level_list}
use Rattle.swim_sync.proofs.Levelling.{length-level_list, level, level_both}
use Rattle.swim_sync.proofs.laws.levels.Goals as goal

pub returns-clause-count : goal.returns-clause-count
returns-clause-count c = length-level_list

pub returns-clause-level : goal.returns-clause-level
returns-clause-level c = level

pub returns-clause-one_table : goal.returns-clause-one_table
returns-clause-one_table c = λ members start j k table other first second h g.
    let after_all = heard members start (level_list (length start)) in
    TableOf-unique table other (heard_by after_all j) (heard_by after_all k) h g (level_both members start j k first second)
