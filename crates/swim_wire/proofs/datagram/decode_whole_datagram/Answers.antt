use Rattle.std.proofs.Common.{inl}
use Rattle.swim_wire.proofs.DatagramAsking.{alone_asks}
use Rattle.swim_wire.proofs.datagram.decode_whole_datagram.Goals as goal

pub returns-in_err-packets-clause-memory : goal.returns-in_err-packets-clause-memory
returns-in_err-packets-clause-memory c =
    let read = c.in_ok-decode_any_datagram.ensures in
    λ _. inl (alone_asks c.args.bytes.now _ (λ seven. c.in_err-packets.ensures.refused (read.compound.1 seven)) read.lists)
