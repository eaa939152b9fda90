use Rattle.std.proofs.Common.{IfOk, rules}
use Rattle.swimunwrap.specs.Outcome.{IsOutcomeOf}
use Rattle.swimunwrap.specs.Packet.{IsHexOf, accepted_on}
use Rattle.swimunwrap.proofs.Outcomes.{of_line}
use Rattle.swimunwrap.proofs.packet.outcome_of_line.Goals as goal

pub returns-in-Ok : goal.returns-in-Ok
returns-in-Ok c =
    let decoded : IsHexOf c.args.line.now c.in-Ok.bytes.items = search rules in
    let outcome : IfOk c.outcome_of_bytes.result
    (IsOutcomeOf (accepted_on c.args.clear c.in-Ok.bytes.items) c.args.keys.now
    c.in-Ok.bytes.items) = search rules in
    of_line c.args.clear c.args.keys.now c.args.line.now c.in-Ok.bytes.items c.outcome_of_bytes.result decoded outcome
