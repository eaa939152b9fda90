use Rattle.std.proofs.Common.{rules}
use Rattle.std.specs.Prelude.{◌≢◌}
use Rattle.swim_wire.specs.declared.fault.WireFault.TheVariants.{Memory}
use Rattle.swimwatch.proofs.heard.records.records_of_stream.Goals as goal

pub returns-in-Err : goal.returns-in-Err
returns-in-Err c =
    let other : c.in-Err.field-0 ≢ Memory = search rules in record { whole = tt; user = tt; none = c.in-Err.ensures.none other }
