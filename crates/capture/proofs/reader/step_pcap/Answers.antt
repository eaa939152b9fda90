use Rattle.std.proofs.lemmas.Result.{err_from_is_err_and}
use Rattle.swim_pack.proofs.Composing.{Reads-exit, Reads-then}
use Rattle.std.proofs.Common.{refl}
use Rattle.capture.proofs.Parts.{Reads-is}
use Rattle.capture.specs.Captures.{step_at}
use Rattle.capture.proofs.reader.step_pcap.Goals as goal

pub returns-in_err-record : goal.returns-in_err-record
unfolding step_at
returns-in_err-record g c =
    let p = err_from_is_err_and c.from_residual.result c.from_residual.ensures.1 in
    rw (p.1, p.2) (Reads-exit _ c.in_err-record.ensures)

pub returns : goal.returns
unfolding step_at
returns g c =
    (Reads-then _ c.in_ok-record.ensures (Reads-is _ _ refl))
