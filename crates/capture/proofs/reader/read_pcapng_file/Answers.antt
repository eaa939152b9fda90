use Rattle.std.proofs.lemmas.Result.{err_from_is_err_and}
use Rattle.swim_pack.proofs.Composing.{Reads-exit, Reads-then}
use Rattle.std.proofs.Common.{ap}
use Rattle.capture.proofs.Parts.{Reads-is}
use Rattle.capture.specs.Captures.{pcapng_file}
use Rattle.capture.specs.Captures.CaptureState.{pcapng}
use Rattle.capture.proofs.reader.read_pcapng_file.Goals as goal

pub returns-in_err-fill : goal.returns-in_err-fill
unfolding pcapng_file
returns-in_err-fill g c =
    let p = err_from_is_err_and c.from_residual.result c.from_residual.ensures.1 in
    rw (p.1, p.2) (Reads-exit _ c.in_err-fill.ensures)

pub returns-in_err-order : goal.returns-in_err-order
unfolding pcapng_file
returns-in_err-order g c =
    let p = err_from_is_err_and c.from_residual-in_err-order.result c.from_residual-in_err-order.ensures.1 in
    rw (p.1, p.2) (Reads-then _ c.in_ok-fill.ensures (Reads-exit _ c.in_err-order.ensures))

pub returns : goal.returns
unfolding pcapng_file
returns g c =
    (Reads-then _ c.in_ok-fill.ensures (Reads-then _ c.in_ok-order.ensures (Reads-is _ _ (ap pcapng c.new.ensures))))
