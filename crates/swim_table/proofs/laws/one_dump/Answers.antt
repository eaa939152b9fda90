use Rattle.swim_table.proofs.Dumps.{same_table_dumped}
use Rattle.swim_table.proofs.laws.one_dump.Goals as goal

pub returns : goal.returns
returns c = same_table_dumped
