use Rattle.swim_c.proofs.AgentOpens.{copied}
use Rattle.swim_c.proofs.agent.keys.add_copy.Goals as goal

pub returns-in-Ok : goal.returns-in-Ok
returns-in-Ok c = copied c.args.keys.now c.args.i c.in-Some.key.now c.args.made.now c.add.new.self c.in-Some.ensures
    c.in-Ok.ensures.adds
