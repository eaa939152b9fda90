use Rattle.std.proofs.lemmas.Result.{err_from_is_err_and}
use Rattle.swim_pack.proofs.Composing.{Reads-exit, Reads-then}
use Rattle.swim_pack.proofs.Composing.{Reads-gives}
use Rattle.swim_pack.specs.Composing.{same}
use Rattle.capture.specs.Pcapng.{section_at}
use Rattle.capture.proofs.blocks.read_section.Goals as goal

pub returns-in_err-fill : goal.returns-in_err-fill
unfolding section_at
returns-in_err-fill g c =
    let p = err_from_is_err_and c.from_residual.result c.from_residual.ensures.1 in
    rw (p.1, p.2) (Reads-exit _ c.in_err-fill.ensures)

pub returns-in_err-order : goal.returns-in_err-order
unfolding section_at
returns-in_err-order g c =
    let p = err_from_is_err_and c.from_residual-in_err-order.result c.from_residual-in_err-order.ensures.1 in
    rw (p.1, p.2) (Reads-then _ c.in_ok-fill.ensures
    (Reads-exit _ (rw c.u32_at-magic.ensures at
    (c.in_err-order.ensures (g.I.Inlet.seen c.fill.new.inlet)))))

pub returns-in_err-room : goal.returns-in_err-room
unfolding section_at
returns-in_err-room g c =
    let p = err_from_is_err_and c.from_residual-in_err-room.result c.from_residual-in_err-room.ensures.1 in
    rw (p.1, p.2) (Reads-then _ c.in_ok-fill.ensures
    (Reads-then _ (rw c.u32_at-magic.ensures at
    (c.in_ok-order.ensures (g.I.Inlet.seen c.fill.new.inlet)))
    (Reads-exit _ (rw c.u32_at-total.ensures at
    (c.in_err-room.ensures (g.I.Inlet.seen c.fill.new.inlet))))))

pub returns-in_err-fill-2 : goal.returns-in_err-fill-2
unfolding section_at
returns-in_err-fill-2 g c =
    let p = err_from_is_err_and c.from_residual-in_err-fill-2.result c.from_residual-in_err-fill-2.ensures.1 in
    rw (p.1, p.2) (Reads-then _ c.in_ok-fill.ensures
    (Reads-then _ (rw c.u32_at-magic.ensures at
    (c.in_ok-order.ensures (g.I.Inlet.seen c.fill.new.inlet)))
    (Reads-then _ (rw c.u32_at-total.ensures at
    (c.in_ok-room.ensures (g.I.Inlet.seen c.fill.new.inlet)))
    (Reads-exit _ c.in_err-fill-2.ensures))))

pub returns-in_err-check_version : goal.returns-in_err-check_version
unfolding section_at
returns-in_err-check_version g c =
    let p = err_from_is_err_and c.from_residual-in_err-check_version.result c.from_residual-in_err-check_version.ensures.1 in
    rw (p.1, p.2) (Reads-then _ c.in_ok-fill.ensures
    (Reads-then _ (rw c.u32_at-magic.ensures at
    (c.in_ok-order.ensures (g.I.Inlet.seen c.fill.new.inlet)))
    (Reads-then _ (rw c.u32_at-total.ensures at
    (c.in_ok-room.ensures (g.I.Inlet.seen c.fill.new.inlet)))
    (Reads-then _ c.in_ok-fill-2.ensures
    (Reads-exit _ (rw c.u16_at-major.ensures at
    (c.in_err-check_version.ensures (g.I.Inlet.seen c.fill-2.new.inlet))))))))

pub returns-in_err-read_closed : goal.returns-in_err-read_closed
unfolding section_at
returns-in_err-read_closed g c =
    let p = err_from_is_err_and c.from_residual-in_err-read_closed.result c.from_residual-in_err-read_closed.ensures.1 in
    rw (p.1, p.2) (Reads-then _ c.in_ok-fill.ensures
    (Reads-then _ (rw c.u32_at-magic.ensures at
    (c.in_ok-order.ensures (g.I.Inlet.seen c.fill.new.inlet)))
    (Reads-then _ (rw c.u32_at-total.ensures at
    (c.in_ok-room.ensures (g.I.Inlet.seen c.fill.new.inlet)))
    (Reads-then _ c.in_ok-fill-2.ensures
    (Reads-then _ (rw c.u16_at-major.ensures at
    (c.in_ok-check_version.ensures (g.I.Inlet.seen c.fill-2.new.inlet)))
    (Reads-exit _ (rw c.u32_at-total.ensures at c.in_err-read_closed.ensures)))))))

pub returns : goal.returns
unfolding section_at
returns g c =
    (Reads-then _ c.in_ok-fill.ensures
    (Reads-then _ (rw c.u32_at-magic.ensures at
    (c.in_ok-order.ensures (g.I.Inlet.seen c.fill.new.inlet)))
    (Reads-then _ (rw c.u32_at-total.ensures at
    (c.in_ok-room.ensures (g.I.Inlet.seen c.fill.new.inlet)))
    (Reads-then _ c.in_ok-fill-2.ensures
    (Reads-then _ (rw c.u16_at-major.ensures at
    (c.in_ok-check_version.ensures (g.I.Inlet.seen c.fill-2.new.inlet)))
    (Reads-then _ (rw c.u32_at-total.ensures at c.in_ok-read_closed.ensures)
    (Reads-gives {view = same} _)))))))
