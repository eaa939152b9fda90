use Rattle.std.proofs.Common.{◌<◌, arith}
use Rattle.std.proofs.lemmas.List.Elements.{All-from_get_or}
use Rattle.swim_claim.specs.Bytes.{AreBytes}
use Rattle.swim_wire.proofs.WholeDatagrams.{datagram_reads, datagram_refuses, datagram_reason, datagram_exact}
use Rattle.swim_wire.proofs.datagram.decode_datagram.Goals as goal

pub returns-clause-reads : goal.returns-clause-reads
returns-clause-reads c =
    let are : AreBytes c.args.bytes.now = All-from_get_or (λ b. b < 256) c.args.bytes.now 0
    (λ i lt. let fits = c.type_inv.bytes i in omega arith) in
    datagram_reads (λ packets. packets.items) _ _ are c.decode_whole_datagram.ensures.lists

pub returns-clause-refuses : goal.returns-clause-refuses
returns-clause-refuses c = datagram_refuses (λ packets. packets.items) _ _ c.decode_whole_datagram.ensures.lists

pub returns-clause-reason : goal.returns-clause-reason
returns-clause-reason c =
    let are : AreBytes c.args.bytes.now = All-from_get_or (λ b. b < 256) c.args.bytes.now 0
    (λ i lt. let fits = c.type_inv.bytes i in omega arith) in
    datagram_reason (λ packets. packets.items) _ _ are c.decode_whole_datagram.ensures.lists c.decode_whole_datagram.ensures.memory

pub returns-clause-exact : goal.returns-clause-exact
returns-clause-exact c = datagram_exact (λ packets. packets.items) c.args.bytes.now _ c.decode_whole_datagram.ensures.lists
