use Rattle.std.proofs.Common.{Result, ap}
use Rattle.std.proofs.lemmas.Result.{err_from_is_err_and}
use Rattle.swim_wire.specs.declared.fault.WireFault.{WireFault}
use Rattle.memberlist_message.specs.Claims.{and_then, alive_of}
use Rattle.memberlist_message.specs.Messages.{alive_after}
use Rattle.memberlist_message.specs.Slots.{Slots}
use Rattle.memberlist_message.proofs.Slotting.{fault_of}
use Rattle.memberlist_message.proofs.decode.decode_alive.Goals as goal

pub returns-in_err-read_fields : goal.returns-in_err-read_fields
unfolding alive_after
returns-in_err-read_fields c =
    let p = err_from_is_err_and c.from_residual.result c.from_residual.ensures.1 in
    rw (p.1, p.2) (fault_of _ _ _ (λ e. ap (λ (r : Result Slots WireFault). and_then r alive_of) e) c.in_err-read_fields.ensures)
