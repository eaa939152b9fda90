use Rattle.std.proofs.Common.{ℕ, ◌∙◌, ap}
use Rattle.std.proofs.lemmas.Result.{err_from_is_err_and}
use Rattle.swim_pack.proofs.Composing.{Reads-exit, Reads-then}
use Rattle.capture.specs.Pcap.{fraction_of, pcap_record}
use Rattle.capture.proofs.Parts.{Reads-is}
use Rattle.capture.proofs.Made.{record_same}
use Rattle.capture.proofs.pcap.read_pcap_record.Goals as goal

pub returns-in_err-fill_header : goal.returns-in_err-fill_header
unfolding pcap_record
returns-in_err-fill_header g c =
    let p = err_from_is_err_and c.from_residual.result c.from_residual.ensures.1 in
    rw (p.1, p.2) (Reads-exit _ c.in_err-fill_header.ensures)

pub returns-in_err-read_captured : goal.returns-in_err-read_captured
unfolding pcap_record
returns-in_err-read_captured g c =
    let p = err_from_is_err_and c.from_residual-in_err-read_captured.result c.from_residual-in_err-read_captured.ensures.1 in
    let read = rw c.u32_at-length.ensures at c.in_err-read_captured.ensures in
    rw (p.1, p.2) (Reads-then _ c.in_ok-fill_header.ensures (Reads-exit _ read))

pub returns : goal.returns
unfolding pcap_record
returns g c =
    let read = rw c.u32_at-length.ensures at c.in_ok-read_captured.ensures in
    let seconds = c.from-seconds.ensures ∙ c.u32_at-whole.ensures in
    let fraction = c.nanoseconds-fraction.ensures.is ∙ ap (λ (n : ℕ). fraction_of c.args.file.precision n) c.u32_at-part.ensures in
    Reads-then _ c.in_ok-fill_header.ensures
    (Reads-then _ read (Reads-is _ _ (record_same c.read_captured.new.bytes.items c.args.file.link _ _ _ _ _
    _ seconds fraction c.u32_at-original.ensures)))
