use Rattle.std.proofs.Common.{sym, ◌∙◌, arith}
use Rattle.swim_wire.specs.Layout.{alive_layout}
use Rattle.swim_wire.specs.Reading.{alive_of, alive_at}
use Rattle.swim_wire.proofs.Asking.{body_asks}
use Rattle.swim_wire.proofs.InOrder.{map_told}
use Rattle.swim_wire.proofs.Keys.{alive_legal}
use Rattle.swim_wire.proofs.in_order.alive_packet.Goals as goal

pub returns-then-is_empty-clause-answers : goal.returns-then-is_empty-clause-answers
unfolding alive_at
returns-then-is_empty-clause-answers c =
    rw (map_told alive_layout alive_of c.args.body.now c.in_ok-alive.rest.now _ c.in_ok-alive.ensures.reads
    (sym c.is_empty.ensures ∙ c.if-is_empty.true))
    c.packet_of_alive.ensures.answers

pub returns-then-is_empty-clause-memory : goal.returns-then-is_empty-clause-memory
returns-then-is_empty-clause-memory c = λ is.
    body_asks alive_layout 3 _ c.in_ok-alive.rest.now _ alive_legal (omega arith) c.in_ok-alive.ensures.reads
    (c.packet_of_alive.ensures.memory is)
