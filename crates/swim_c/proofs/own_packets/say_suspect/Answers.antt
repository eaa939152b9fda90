use Rattle.std.proofs.Common.{◌∙◌, inr}
use Rattle.swim_claim.specs.declared.claim.Claim.TheVariants.{Suspect}
use Rattle.swim_c.specs.Buffers.{IsNoMemory}
use Rattle.swim_c.specs.OwnPackets.{IsNoName}
use Rattle.swim_c.proofs.OwnPackets.{said}
use Rattle.swim_c.proofs.own_packets.say_suspect.Goals as goal

pub returns-in-Ok : goal.returns-in-Ok
returns-in-Ok c =
    let names = c.in-Ok.ensures.names in
    said c.new-packet.result _ _ _ _ _ IsNoMemory (IsNoName c.args.name.now)
    (c.new-packet.ensures ∙ (λ i. record { claim = Suspect (names.0 i) c.args.inc; from = names.1 i })) (λ why. inr (inr why))
    c.packet_out.ensures
