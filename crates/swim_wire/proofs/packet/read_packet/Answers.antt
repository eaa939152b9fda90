use Rattle.std.proofs.Common.{◌≡◌, inl, inr, refl, rules}
use Rattle.swim_pack.proofs.Composing.{Reads-then, Reads-refuses}
use Rattle.swim_pack.specs.Composing.{refuses}
use Rattle.swim_wire.specs.Asking.{MapAsks}
use Rattle.swim_wire.specs.Layout.{alive_layout, accusation_layout}
use Rattle.swim_wire.specs.Reading.{packet_at, packet_after}
use Rattle.swim_wire.specs.declared.fault.WireFault.TheVariants.{WrongType}
use Rattle.swim_wire.proofs.Asking.{fault_exits, type_asks}
use Rattle.swim_wire.proofs.WholeReads.{Reads-exits}
use Rattle.swim_wire.proofs.packet.read_packet.Goals as goal

pub returns-in_err-found-clause-exact : goal.returns-in_err-found-clause-exact
unfolding packet_at
returns-in_err-found-clause-exact g c = Reads-exits _ _ c.from_residual.ensures.1 c.in_err-found.ensures.exact

pub returns-in-4-clause-exact : goal.returns-in-4-clause-exact
unfolding packet_at
returns-in-4-clause-exact g c = Reads-then packet_after c.in_ok-found.ensures.exact (rw c.in-4.is c.read_alive.ensures.exact)

pub returns-in_default-clause-exact : goal.returns-in_default-clause-exact
unfolding packet_at
returns-in_default-clause-exact g c =
    let none : packet_after c.in_ok-found.found ≡ refuses (WrongType c.in_ok-found.found) = search rules in
    Reads-then packet_after c.in_ok-found.ensures.exact (rw none (Reads-refuses (WrongType c.in_ok-found.found) refl))

pub returns-in-3-clause-exact : goal.returns-in-3-clause-exact
unfolding packet_at
returns-in-3-clause-exact g c = Reads-then packet_after c.in_ok-found.ensures.exact (rw c.in-3.is c.read_suspect.ensures.exact)

pub returns-in-5-clause-exact : goal.returns-in-5-clause-exact
unfolding packet_at
returns-in-5-clause-exact g c = Reads-then packet_after c.in_ok-found.ensures.exact (rw c.in-5.is c.read_dead.ensures.exact)

pub returns-in_err-found-clause-memory : goal.returns-in_err-found-clause-memory
returns-in_err-found-clause-memory g c = fault_exits _ c.from_residual.ensures.1 (λ is. absurd (c.in_err-found.ensures.no_memory is))

pub returns-in-4-clause-memory : goal.returns-in-4-clause-memory
returns-in-4-clause-memory g c = λ is.
    type_asks c.in_ok-found.found (MapAsks alive_layout)
    (λ rest asks. inl (c.in-4.is, asks)) c.in_ok-found.ensures.exact (c.read_alive.ensures.memory is)

pub returns-in-3-clause-memory : goal.returns-in-3-clause-memory
returns-in-3-clause-memory g c = λ is.
    type_asks c.in_ok-found.found (MapAsks accusation_layout)
    (λ rest asks. inr (inl c.in-3.is, asks)) c.in_ok-found.ensures.exact
    (c.read_suspect.ensures.memory is)

pub returns-in-5-clause-memory : goal.returns-in-5-clause-memory
returns-in-5-clause-memory g c = λ is.
    type_asks c.in_ok-found.found (MapAsks accusation_layout)
    (λ rest asks. inr (inr c.in-5.is, asks)) c.in_ok-found.ensures.exact
    (c.read_dead.ensures.memory is)
