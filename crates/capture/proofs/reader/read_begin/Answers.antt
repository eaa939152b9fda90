use Rattle.std.proofs.lemmas.Result.{err_from_is_err_and}
use Rattle.swim_pack.proofs.Composing.{Reads-exit, Reads-then}
use Rattle.capture.specs.Captures.{begin_at}
use Rattle.capture.proofs.reader.read_begin.Goals as goal

pub returns-in_err-fill_header : goal.returns-in_err-fill_header
unfolding begin_at
returns-in_err-fill_header g c =
    let p = err_from_is_err_and c.from_residual.result c.from_residual.ensures.1 in
    rw (p.1, p.2) (Reads-exit _ c.in_err-fill_header.ensures)

pub returns : goal.returns
unfolding begin_at
returns g c =
    (Reads-then _ c.in_ok-fill_header.ensures (rw c.u32_at-magic.ensures at c.read_file.ensures))
