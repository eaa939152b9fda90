use Rattle.std.proofs.lemmas.Result.{err_from_is_err_and}
use Rattle.swim_pack.proofs.Composing.{Reads-exit, Reads-then}
use Rattle.capture.specs.Pcapng.{other_at}
use Rattle.capture.proofs.blocks.read_other.Goals as goal

pub returns-in_err-room : goal.returns-in_err-room
unfolding other_at
returns-in_err-room g c =
    let p = err_from_is_err_and c.from_residual.result c.from_residual.ensures.1 in
    rw (p.1, p.2) (Reads-exit _ (c.in_err-room.ensures (g.I.Inlet.seen c.args.inlet.now)))

pub returns : goal.returns
unfolding other_at
returns g c =
    (Reads-then _ (c.in_ok-room.ensures (g.I.Inlet.seen c.args.inlet.now)) c.read_closed.ensures)
