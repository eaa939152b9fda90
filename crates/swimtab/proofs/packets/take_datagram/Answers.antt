use Rattle.std.proofs.Common.{ap, ◌∙◌}
use Rattle.std.proofs.lemmas.Result.{err_from_is_err_and}
use Rattle.swim_wire.specs.PacketList.{packets_in}
use Rattle.swim_program.specs.Report.{what_of}
use Rattle.swimtab.proofs.packets.take_datagram.Goals as goal

pub returns-in_err-datagram-clause-refuses : goal.returns-in_err-datagram-clause-refuses
returns-in_err-datagram-clause-refuses c =
    let p = err_from_is_err_and c.from_residual.result c.from_residual.ensures.1 in
    rw p.1 (λ seen. c.in_err-datagram.ensures.refuses (λ m. seen (p.2 ∙ ap what_of m)))

pub returns-in_err-datagram-clause-tells : goal.returns-in_err-datagram-clause-tells
returns-in_err-datagram-clause-tells c =
    let p = err_from_is_err_and c.from_residual.result c.from_residual.ensures.1 in
    rw p.1 (λ seen. (c.in_err-datagram.field-0.0, c.in_err-datagram.ensures.exact (λ m. seen (p.2 ∙ ap what_of m)), p.2))

pub returns-clause-takes : goal.returns-clause-takes
returns-clause-takes c =
    (packets_in c.in_ok-datagram.datagram, c.in_ok-datagram.ensures.reads, c.in_ok-take_datagram.ensures.all)

pub returns-in_err-take_datagram-clause-refuses : goal.returns-in_err-take_datagram-clause-refuses
returns-in_err-take_datagram-clause-refuses c =
    let p = err_from_is_err_and c.from_residual-in_err-take_datagram.result c.from_residual-in_err-take_datagram.ensures.1 in
    rw p.1 (λ seen. absurd (seen p.2))

pub returns-in_err-take_datagram-clause-tells : goal.returns-in_err-take_datagram-clause-tells
returns-in_err-take_datagram-clause-tells c =
    let p = err_from_is_err_and c.from_residual-in_err-take_datagram.result c.from_residual-in_err-take_datagram.ensures.1 in
    rw p.1 (λ seen. absurd (seen p.2))
