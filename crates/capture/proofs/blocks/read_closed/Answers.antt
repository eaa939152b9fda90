use Rattle.std.proofs.lemmas.Result.{err_from_is_err_and}
use Rattle.swim_pack.proofs.Composing.{Reads-exit, Reads-then}
use Rattle.capture.specs.Pcapng.{closed}
use Rattle.capture.proofs.blocks.read_closed.Goals as goal

pub returns-in_err-skip : goal.returns-in_err-skip
unfolding closed
returns-in_err-skip g c =
    let p = err_from_is_err_and c.from_residual.result c.from_residual.ensures.1 in
    rw (p.1, p.2) (Reads-exit _ c.in_err-skip.ensures)

pub returns-in_err-fill : goal.returns-in_err-fill
unfolding closed
returns-in_err-fill g c =
    let p = err_from_is_err_and c.from_residual-in_err-fill.result c.from_residual-in_err-fill.ensures.1 in
    rw (p.1, p.2) (Reads-then _ c.in_ok-skip.ensures (Reads-exit _ c.in_err-fill.ensures))

pub returns : goal.returns
unfolding closed
returns g c =
    (Reads-then _ c.in_ok-skip.ensures
    (Reads-then _ c.in_ok-fill.ensures
    (rw c.u32_at-again.ensures at (c.check_total.ensures (g.I.Inlet.seen c.fill.new.inlet)))))
