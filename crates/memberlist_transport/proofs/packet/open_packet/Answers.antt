use Rattle.std.proofs.lemmas.Result.{IfErr-weaker}
use Rattle.memberlist_transport.proofs.Packets.{no_message}
use Rattle.memberlist_transport.proofs.packet.open_packet.Goals as goal

pub returns-clause-refuses : goal.returns-clause-refuses
returns-clause-refuses c =
    IfErr-weaker c.message_of_packet.result _ _
    (λ fault h seen. no_message c.args.clear c.args.keys.now c.args.bytes.now fault
    (h seen)) c.message_of_packet.ensures.reason
