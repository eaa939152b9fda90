use Rattle.std.proofs.Common.{◌∙◌}
use Rattle.swim_claim.specs.declared.claim.Claim.TheVariants.{Alive}
use Rattle.swim_c.specs.declared.opening.OpenFault.TheVariants as opening
use Rattle.swim_c.specs.Buffers.{IsNoMemory}
use Rattle.swim_c.proofs.OwnPackets.{said}
use Rattle.swim_c.proofs.own_packets.say_alive_of.Goals as goal

pub returns-in-Ok : goal.returns-in-Ok
returns-in-Ok c =
    let made = c.in-Ok.ensures in
    said c.new-packet.result _ _ _ _ _ IsNoMemory _
    (c.new-packet.ensures ∙ (λ i. record { claim = Alive (made.name i) c.args.inc (made.details i); from = c.new.ensures.items i }))
    (λ why. (opening.Memory, why, tt)) c.packet_out.ensures
