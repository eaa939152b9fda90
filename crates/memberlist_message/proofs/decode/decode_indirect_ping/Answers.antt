use Rattle.std.proofs.Common.{Ok, Result, ap, refl}
use Rattle.std.proofs.lemmas.Result.{err_from_is_err_and}
use Rattle.swim_wire.specs.declared.fault.WireFault.{WireFault}
use Rattle.memberlist_message.specs.Claims.{and_then}
use Rattle.memberlist_message.specs.Messages.{MessageValue, indirect_ping_after, indirect_ping_of}
use Rattle.memberlist_message.specs.Slots.{Slots}
use Rattle.memberlist_message.proofs.Slotting.{fault_of}
use Rattle.memberlist_message.proofs.decode.decode_indirect_ping.Goals as goal

pub returns-in_err-values : goal.returns-in_err-values
unfolding indirect_ping_after
returns-in_err-values c =
    let p = err_from_is_err_and c.from_residual.result c.from_residual.ensures.1 in
    rw (p.1, p.2)
    (fault_of _ _ _ (λ e. ap (λ (r : Result Slots WireFault). and_then r
    (λ slots. Ok (MessageValue.indirect_ping (indirect_ping_of slots)))) e)
    c.in_err-values.ensures)

pub returns : goal.returns
unfolding indirect_ping_after
returns c = rw c.in_ok-values.ensures (rw c.in_ok-indirect_ping_of.ensures refl)
