use Rattle.swimwatch.proofs.Waiting.{none_waits, opened}
use Rattle.swimwatch.proofs.input.sources.Sources.begin.Goals as goal

pub loop-word-init : goal.loop-word-init
loop-word-init c = none_waits c.new-sources.result c.new-sources.ensures

pub loop-word-preserved : goal.loop-word-preserved
loop-word-preserved c = c.in_ok-add.ensures c.loop-word.invariant

pub returns : goal.returns
returns c = opened c.loop-word.sources c.open_first.new.self c.in_ok-open_first.ensures c.loop-word.invariant
