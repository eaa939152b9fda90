use Rattle.swim_c.specs.Buffers.{IsNoMemory}
use Rattle.swim_c.proofs.OwnPackets.{said}
use Rattle.swim_c.proofs.own_packets.say_leave.Goals as goal

pub returns-in-Ok : goal.returns-in-Ok
returns-in-Ok c = said c.in-Ok.packet _ _ _ _ _ IsNoMemory IsNoMemory c.in-Ok.ensures (λ why. why) c.packet_out.ensures
