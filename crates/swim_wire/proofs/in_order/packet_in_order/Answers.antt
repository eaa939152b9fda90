use Rattle.std.proofs.Common.{inl, inr, refl}
use Rattle.swim_wire.specs.Reading.{packet_at}
use Rattle.swim_wire.proofs.Asking.{packet_asks}
use Rattle.swim_wire.proofs.InOrder.{type_is, if_some_more}
use Rattle.swim_wire.proofs.in_order.packet_in_order.Goals as goal

pub returns-in-Some-eq4-default-clause-answers : goal.returns-in-Some-eq4-default-clause-answers
unfolding packet_at
returns-in-Some-eq4-default-clause-answers c =
    rw (type_is 4 c.in-Some-eq4-default.ensures.cases.0 cc) c.alive_packet.ensures.answers

pub returns-in-Some-eq4-default-clause-memory : goal.returns-in-Some-eq4-default-clause-memory
returns-in-Some-eq4-default-clause-memory c =
    let is = type_is 4 c.in-Some-eq4-default.ensures.cases.0 cc in
    if_some_more _ _ c.alive_packet.result
    (λ read asks memory. packet_asks _ _ 4 is (inl (refl, asks memory))) c.alive_packet.ensures.memory

pub returns-in-Some-eq3-default-clause-answers : goal.returns-in-Some-eq3-default-clause-answers
unfolding packet_at
returns-in-Some-eq3-default-clause-answers c =
    rw (type_is 3 c.in-Some-eq3-default.ensures.cases.0 cc) c.suspect_packet.ensures.answers

pub returns-in-Some-eq3-default-clause-memory : goal.returns-in-Some-eq3-default-clause-memory
returns-in-Some-eq3-default-clause-memory c =
    let is = type_is 3 c.in-Some-eq3-default.ensures.cases.0 cc in
    if_some_more _ _ c.suspect_packet.result
    (λ read asks memory. packet_asks _ _ 3 is
    (inr (inl refl, asks memory))) c.suspect_packet.ensures.memory

pub returns-in-Some-eq5-default-clause-answers : goal.returns-in-Some-eq5-default-clause-answers
unfolding packet_at
returns-in-Some-eq5-default-clause-answers c =
    rw (type_is 5 c.in-Some-eq5-default.ensures.cases.0 cc) c.dead_packet.ensures.answers

pub returns-in-Some-eq5-default-clause-memory : goal.returns-in-Some-eq5-default-clause-memory
returns-in-Some-eq5-default-clause-memory c =
    let is = type_is 5 c.in-Some-eq5-default.ensures.cases.0 cc in
    if_some_more _ _ c.dead_packet.result
    (λ read asks memory. packet_asks _ _ 5 is
    (inr (inr refl, asks memory))) c.dead_packet.ensures.memory
