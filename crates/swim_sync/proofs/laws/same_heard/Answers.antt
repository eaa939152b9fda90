use Rattle.swim_table.proofs.Tables.{TableOf-unique}
use Rattle.swim_sync.specs.Heard.{heard, heard_by}
use Rattle.swim_sync.proofs.laws.same_heard.Goals as goal

pub returns : goal.returns
returns c = λ members others start begun events happened j k table other h g same.
    TableOf-unique table other (heard_by (heard members start events) j) (heard_by (heard others begun happened) k) h g same
