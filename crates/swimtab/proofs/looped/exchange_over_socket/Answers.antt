use Rattle.std.proofs.Common.{refl}
use Rattle.swim_wire.specs.declared.fault.WireFault.TheVariants as wire
use Rattle.swimtab.proofs.looped.exchange_over_socket.Goals as goal

pub returns-in-Err-clause-stops : goal.returns-in-Err-clause-stops
returns-in-Err-clause-stops g c = (wire.Fault, refl)
