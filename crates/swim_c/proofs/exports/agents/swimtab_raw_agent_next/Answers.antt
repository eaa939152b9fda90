use Rattle.std.proofs.Common.{◌≡◌, rules}
use Rattle.swim_c.specs.Agents.{NextDone}
use Rattle.swim_c.proofs.AgentCalls.{on_agent}
use Rattle.swim_c.proofs.exports.agents.swimtab_raw_agent_next.Goals as goal

pub returns : goal.returns
returns c =
    let told = c.give-status in
    on_agent c.args.agent.now.agent c.put.new.self.agent
    ((told.result ≡ 64) × (told.new.out ≡ c.args.out.now) × (told.new.buffer ≡ c.args.buffer.now))
    (NextDone told.result c.args.out.now told.new.out c.args.buffer.now told.new.buffer)
    c.deref_mut.result.now told.new.held (search rules) (search rules) told.ensures.gives
