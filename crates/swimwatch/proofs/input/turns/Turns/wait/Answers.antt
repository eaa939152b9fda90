use Rattle.swimwatch.proofs.Turning.{waits}
use Rattle.swimwatch.proofs.input.turns.Turns.wait.Goals as goal

pub returns : goal.returns
returns c other = waits c.args.turn other c.args.self.now.waiting c.insert.new.self c.in_ok-insert.ensures.updates
