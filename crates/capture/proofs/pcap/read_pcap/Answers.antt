use Rattle.std.proofs.Common.{ℕ, ◌%◌, ap}
use Rattle.std.proofs.lemmas.Result.{err_from_is_err_and}
use Rattle.swim_pack.proofs.Composing.{Reads-exit, Reads-then}
use Rattle.capture.specs.Pcap.{pcap_behind}
use Rattle.capture.proofs.Parts.{Reads-is}
use Rattle.capture.proofs.Made.{pcap_made}
use Rattle.capture.proofs.pcap.read_pcap.Goals as goal

pub returns-in_err-fill : goal.returns-in_err-fill
unfolding pcap_behind
returns-in_err-fill g c =
    let p = err_from_is_err_and c.from_residual.result c.from_residual.ensures.1 in
    rw (p.1, p.2) (Reads-exit _ c.in_err-fill.ensures)

pub returns-in_err-check_version : goal.returns-in_err-check_version
unfolding pcap_behind
returns-in_err-check_version g c =
    let p = err_from_is_err_and c.from_residual-in_err-check_version.result c.from_residual-in_err-check_version.ensures.1 in
    let checked = rw c.u16_at.ensures at (c.in_err-check_version.ensures (g.I.Inlet.seen c.fill.new.inlet)) in
    rw (p.1, p.2) (Reads-then _ c.in_ok-fill.ensures (Reads-exit _ checked))

pub returns : goal.returns
unfolding pcap_behind
returns g c =
    let checked = rw c.u16_at.ensures at (c.in_ok-check_version.ensures (g.I.Inlet.seen c.fill.new.inlet)) in
    Reads-then _ c.in_ok-fill.ensures
    (Reads-then _ checked (Reads-is _ _ (ap (λ (n : ℕ). pcap_made c.args.order c.args.precision (n % 65536)) c.u32_at-link.ensures)))
