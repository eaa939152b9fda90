use Rattle.swimwatch.proofs.Waiting.{none_waits}
use Rattle.swimwatch.proofs.input.sources.Sources.of.Goals as goal

pub returns : goal.returns
returns c = c.in_ok-add.ensures (none_waits c.new-sources.result c.new-sources.ensures)
