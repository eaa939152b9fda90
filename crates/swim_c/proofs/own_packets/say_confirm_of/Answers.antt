use Rattle.std.proofs.Common.{◌∙◌, inr}
use Rattle.swim_claim.specs.declared.claim.Claim.TheVariants.{Confirm}
use Rattle.swim_c.specs.Buffers.{IsNoMemory}
use Rattle.swim_c.specs.OwnPackets.{IsUnsaidBy}
use Rattle.swim_c.proofs.OwnPackets.{said}
use Rattle.swim_c.proofs.own_packets.say_confirm_of.Goals as goal

pub returns-in-Ok : goal.returns-in-Ok
returns-in-Ok c =
    let names = c.in-Ok.ensures.names in
    said c.new-packet.result _ _ _ _ _ IsNoMemory (IsUnsaidBy c.args.from.now c.args.name.now)
    (c.new-packet.ensures ∙ (λ i. record { claim = Confirm (names.0 i) c.args.inc; from = names.1 i })) (λ why. inr (inr (inr why)))
    c.packet_out.ensures
