use Rattle.std.proofs.Common.{◌<◌, arith}
use Rattle.std.proofs.lemmas.List.Elements.{All-from_get_or}
use Rattle.swim_claim.specs.Bytes.{AreBytes}
use Rattle.swim_wire.specs.PacketList.{packets_in}
use Rattle.swim_wire.proofs.WholeDatagrams.{datagram_reads, datagram_refuses, datagram_reason, datagram_exact}
use Rattle.swim_wire.proofs.datagram.Datagram.decode.Goals as goal

pub returns-clause-reads : goal.returns-clause-reads
returns-clause-reads c =
    let are : AreBytes c.args.bytes.now = All-from_get_or (λ b. b < 256) c.args.bytes.now 0
    (λ i lt. let fits = c.type_inv.bytes i in omega arith) in
    datagram_reads packets_in _ _ are c.decode_any_datagram.ensures.lists

pub returns-clause-refuses : goal.returns-clause-refuses
returns-clause-refuses c = datagram_refuses packets_in _ _ c.decode_any_datagram.ensures.lists

pub returns-clause-reason : goal.returns-clause-reason
returns-clause-reason c =
    let are : AreBytes c.args.bytes.now = All-from_get_or (λ b. b < 256) c.args.bytes.now 0
    (λ i lt. let fits = c.type_inv.bytes i in omega arith) in
    datagram_reason packets_in _ _ are c.decode_any_datagram.ensures.lists c.decode_any_datagram.ensures.memory

pub returns-clause-exact : goal.returns-clause-exact
returns-clause-exact c = datagram_exact packets_in c.args.bytes.now _ c.decode_any_datagram.ensures.lists
