use Rattle.std.proofs.Common.{sym, ◌∙◌, arith}
use Rattle.swim_wire.specs.Layout.{accusation_layout}
use Rattle.swim_wire.specs.Reading.{suspect_of, suspect_at}
use Rattle.swim_wire.proofs.Asking.{body_asks}
use Rattle.swim_wire.proofs.InOrder.{map_told}
use Rattle.swim_wire.proofs.Keys.{accusation_legal}
use Rattle.swim_wire.proofs.in_order.suspect_packet.Goals as goal

pub returns-then-is_empty-clause-answers : goal.returns-then-is_empty-clause-answers
unfolding suspect_at
returns-then-is_empty-clause-answers c =
    rw (map_told accusation_layout suspect_of c.args.body.now c.in_ok-suspect.rest.now _
    c.in_ok-suspect.ensures.reads (sym c.is_empty.ensures ∙ c.if-is_empty.true))
    c.packet_of_suspect.ensures.answers

pub returns-then-is_empty-clause-memory : goal.returns-then-is_empty-clause-memory
returns-then-is_empty-clause-memory c = λ is.
    body_asks accusation_layout 2 _ c.in_ok-suspect.rest.now _ accusation_legal
    (omega arith) c.in_ok-suspect.ensures.reads (c.packet_of_suspect.ensures.memory is)
