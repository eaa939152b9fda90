use Rattle.swim_program.proofs.LineFeeds.{few_lines}
use Rattle.swim_program.proofs.lines.lines_of.Goals as goal

pub returns-clause-len : goal.returns-clause-len
returns-clause-len c = few_lines c.args.input.now
