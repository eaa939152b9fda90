use Rattle.std.proofs.lemmas.Result.{err_from_is_err_and}
use Rattle.swim_pack.proofs.Composing.{Reads-exit, Reads-then}
use Rattle.capture.specs.Pcapng.{timed_packet}
use Rattle.capture.proofs.blocks.read_obsolete.Goals as goal

pub returns-in_err-room : goal.returns-in_err-room
unfolding timed_packet
returns-in_err-room g c =
    let p = err_from_is_err_and c.from_residual.result c.from_residual.ensures.1 in
    rw (p.1, p.2) (Reads-exit _ (c.in_err-room.ensures (g.I.Inlet.seen c.args.inlet.now)))

pub returns-in_err-fill : goal.returns-in_err-fill
unfolding timed_packet
returns-in_err-fill g c =
    let p = err_from_is_err_and c.from_residual-in_err-fill.result c.from_residual-in_err-fill.ensures.1 in
    rw (p.1, p.2) (Reads-then _ (c.in_ok-room.ensures (g.I.Inlet.seen c.args.inlet.now)) (Reads-exit _ c.in_err-fill.ensures))

pub returns-in_err-on : goal.returns-in_err-on
unfolding timed_packet
returns-in_err-on g c =
    let p = err_from_is_err_and c.from_residual-in_err-on.result c.from_residual-in_err-on.ensures.1 in
    rw (p.1, p.2) (Reads-then _ (c.in_ok-room.ensures (g.I.Inlet.seen c.args.inlet.now))
    (Reads-then _ c.in_ok-fill.ensures
    (Reads-exit _ (rw (c.from-number.ensures, c.u16_at-half.ensures) at
    (c.in_err-on.ensures (g.I.Inlet.seen c.fill.new.inlet))))))

pub returns : goal.returns
unfolding timed_packet
returns g c =
    (Reads-then _ (c.in_ok-room.ensures (g.I.Inlet.seen c.args.inlet.now))
    (Reads-then _ c.in_ok-fill.ensures
    (Reads-then _ (rw (c.from-number.ensures, c.u16_at-half.ensures) at
    (c.in_ok-on.ensures (g.I.Inlet.seen c.fill.new.inlet)))
    (rw (
      c.timed-head.ensures,
      c.from-number.ensures,
      c.u16_at-half.ensures,
      c.u32_at-captured.ensures,
    ) at c.read_packet.ensures))))
