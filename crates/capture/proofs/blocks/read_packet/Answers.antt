use Rattle.std.proofs.lemmas.Result.{err_from_is_err_and}
use Rattle.swim_pack.proofs.Composing.{Reads-exit, Reads-then}
use Rattle.swim_pack.proofs.Composing.{Reads-gives}
use Rattle.capture.specs.Blocks.{block_text}
use Rattle.capture.specs.Pcapng.{packet_at}
use Rattle.capture.proofs.blocks.read_packet.Goals as goal

pub returns-in_err-left : goal.returns-in_err-left
unfolding packet_at
returns-in_err-left g c =
    let p = err_from_is_err_and c.from_residual.result c.from_residual.ensures.1 in
    rw (p.1, p.2) (Reads-exit _ (c.in_err-left.ensures (g.I.Inlet.seen c.args.inlet.now)))

pub returns-in_err-read_captured : goal.returns-in_err-read_captured
unfolding packet_at
returns-in_err-read_captured g c =
    let p = err_from_is_err_and c.from_residual-in_err-read_captured.result c.from_residual-in_err-read_captured.ensures.1 in
    rw (p.1, p.2) (Reads-then _ (c.in_ok-left.ensures (g.I.Inlet.seen c.args.inlet.now)) (Reads-exit _ c.in_err-read_captured.ensures))

pub returns-in_err-read_closed : goal.returns-in_err-read_closed
unfolding packet_at
returns-in_err-read_closed g c =
    let p = err_from_is_err_and c.from_residual-in_err-read_closed.result c.from_residual-in_err-read_closed.ensures.1 in
    rw (p.1, p.2) (Reads-then _ (c.in_ok-left.ensures (g.I.Inlet.seen c.args.inlet.now))
    (Reads-then _ c.in_ok-read_captured.ensures (Reads-exit _ c.in_err-read_closed.ensures)))

pub returns : goal.returns
unfolding packet_at
returns g c =
    (Reads-then _ (c.in_ok-left.ensures (g.I.Inlet.seen c.args.inlet.now))
    (Reads-then _ c.in_ok-read_captured.ensures
    (Reads-then _ c.in_ok-read_closed.ensures
    (Reads-gives {view = block_text c.read_captured.new.bytes.items} _))))
