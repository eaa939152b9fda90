use Rattle.std.proofs.Common.{Err, refl}
use Rattle.swim_c.specs.Opening.{told}
use Rattle.swim_c.proofs.AgentOpens.{unsettled}
use Rattle.swim_c.proofs.agent.opening.open.Goals as goal

pub returns-in-Err-clause-refused : goal.returns-in-Err-clause-refused
returns-in-Err-clause-refused c =
    let own = c.args.own in
    let why = c.in-Err.ensures in
    unsettled own.name.now (told own.addr.now own.port own.meta.now own.vsn.now) c.args.label.now
    c.args.beginning.now.settings c.args.beginning.now.seed c.config.result c.in-Err.fault
    (Err c.in-Err.fault) c.config.ensures refl why.no_interval why.bad_multiplier why.short_datagrams
