use Rattle.std.proofs.Common.{arith}
use Rattle.swim_sync.proofs.Exchanging.{few_records}
use Rattle.swim_sync.proofs.push_pull.has_too_many.Goals as goal

-- a table of few names has few records
pub returns-then-len : goal.returns-then-len
returns-then-len c = λ many. omega (arith, many, few_records c.args.table.now, c.len.ensures.len, c.if-len.true)
