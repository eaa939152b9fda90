use Rattle.std.proofs.Common.{ap}
use Rattle.capture.specs.Packets.{transport_text}
use Rattle.capture.specs.Unreachable.{unreachable_text}
use Rattle.swimwatch.proofs.listening.parcel.Parcel.of.Goals as goal

pub returns-in-Unreachable-clause-none : goal.returns-in-Unreachable-clause-none
returns-in-Unreachable-clause-none c =
    (unreachable_text c.in-Unreachable.field-0, ap transport_text c.in-Unreachable.is)
