use Rattle.std.proofs.Common.{Err, ap, inl, inr}
use Rattle.std.proofs.lemmas.Result.{err_from_is_err_and}
use Rattle.swim_wire.specs.PacketList.{packets_in}
use Rattle.swim_c.proofs.Faults.{explained_memory}
use Rattle.swim_c.proofs.take.take_datagram.Goals as goal

pub returns-in_err-datagram-clause-refused : goal.returns-in_err-datagram-clause-refused
returns-in_err-datagram-clause-refused c =
    let p = err_from_is_err_and c.from_residual.result c.from_residual.ensures.1 in
    let why = c.in_err-datagram.ensures in
    rw (p.1, p.2)
    (λ no_memory.
    record { none = why.refuses no_memory; reason = why.reason; exact = why.exact no_memory; no_end = λ e. why.no_fault (ap Err e) })

pub returns-clause-takes : goal.returns-clause-takes
returns-clause-takes c =
    record {
      packets = packets_in c.in_ok-datagram.datagram;
      text = c.in_ok-datagram.ensures.reads;
      taken = c.in_ok-news.ensures.takes;
      member = c.take_datagram.ensures.member;
    }

pub returns-in_err-datagram-clause-memory : goal.returns-in_err-datagram-clause-memory
returns-in_err-datagram-clause-memory c =
    let p = err_from_is_err_and c.from_residual.result c.from_residual.ensures.1 in
    rw (p.1, p.2) (λ is. inl (explained_memory c.args.bytes.now c.in_err-datagram.field-0.0 is c.in_err-datagram.ensures.reason))

pub returns-in_err-news-clause-memory : goal.returns-in_err-news-clause-memory
returns-in_err-news-clause-memory c = λ _. inr (packets_in c.in_ok-datagram.datagram, c.in_ok-datagram.ensures.reads)
