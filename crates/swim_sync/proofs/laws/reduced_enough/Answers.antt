use Rattle.swim_table.specs.Table.{Reduced}
use Rattle.swim_table.proofs.Tables.{TableOf-Reduced}
use Rattle.swim_table.proofs.Showing.{TableOf-sent}
use Rattle.swim_sync.proofs.laws.reduced_enough.Goals as goal

pub returns : goal.returns
returns c = λ table whole claims more h. (
  TableOf-sent table whole (Reduced table) claims more (TableOf-Reduced table claims h) h,
  TableOf-sent table whole claims (Reduced table) more h (TableOf-Reduced table claims h),
)
