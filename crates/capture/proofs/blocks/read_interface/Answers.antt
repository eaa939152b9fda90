use Rattle.std.proofs.lemmas.Result.{err_from_is_err_and}
use Rattle.swim_pack.proofs.Composing.{Reads-exit, Reads-then}
use Rattle.std.proofs.Common.{ℕ, ap₂, ◌∙◌}
use Rattle.capture.proofs.Parts.{Reads-is}
use Rattle.capture.proofs.Made.{interface_made}
use Rattle.capture.specs.Pcapng.{interface_at}
use Rattle.capture.proofs.blocks.read_interface.Goals as goal

pub returns-in_err-room : goal.returns-in_err-room
unfolding interface_at
returns-in_err-room g c =
    let p = err_from_is_err_and c.from_residual.result c.from_residual.ensures.1 in
    rw (p.1, p.2) (Reads-exit _ (c.in_err-room.ensures (g.I.Inlet.seen c.args.inlet.now)))

pub returns-in_err-fill : goal.returns-in_err-fill
unfolding interface_at
returns-in_err-fill g c =
    let p = err_from_is_err_and c.from_residual-in_err-fill.result c.from_residual-in_err-fill.ensures.1 in
    rw (p.1, p.2) (Reads-then _ (c.in_ok-room.ensures (g.I.Inlet.seen c.args.inlet.now)) (Reads-exit _ c.in_err-fill.ensures))

pub returns-in_err-read_captured : goal.returns-in_err-read_captured
unfolding interface_at
returns-in_err-read_captured g c =
    let p = err_from_is_err_and c.from_residual-in_err-read_captured.result c.from_residual-in_err-read_captured.ensures.1 in
    rw (p.1, p.2) (Reads-then _ (c.in_ok-room.ensures (g.I.Inlet.seen c.args.inlet.now))
    (Reads-then _ c.in_ok-fill.ensures (Reads-exit _ c.in_err-read_captured.ensures)))

pub returns-in_err-clock : goal.returns-in_err-clock
unfolding interface_at
returns-in_err-clock g c =
    let p = err_from_is_err_and c.from_residual-in_err-clock.result c.from_residual-in_err-clock.ensures.1 in
    rw (p.1, p.2) (Reads-then _ (c.in_ok-room.ensures (g.I.Inlet.seen c.args.inlet.now))
    (Reads-then _ c.in_ok-fill.ensures
    (Reads-then _ c.in_ok-read_captured.ensures
    (Reads-exit _ (rw c.as_slice-options.ensures.value at
    (c.in_err-clock.ensures (g.I.Inlet.seen c.read_captured.new.inlet)))))))

pub returns-in_err-read_closed : goal.returns-in_err-read_closed
unfolding interface_at
returns-in_err-read_closed g c =
    let p = err_from_is_err_and c.from_residual-in_err-read_closed.result c.from_residual-in_err-read_closed.ensures.1 in
    rw (p.1, p.2) (Reads-then _ (c.in_ok-room.ensures (g.I.Inlet.seen c.args.inlet.now))
    (Reads-then _ c.in_ok-fill.ensures
    (Reads-then _ c.in_ok-read_captured.ensures
    (Reads-then _ (rw c.as_slice-options.ensures.value at
    (c.in_ok-clock.ensures (g.I.Inlet.seen c.read_captured.new.inlet)))
    (Reads-exit _ c.in_err-read_closed.ensures)))))

pub returns-in_err-check_place : goal.returns-in_err-check_place
unfolding interface_at
returns-in_err-check_place g c =
    let p = err_from_is_err_and c.from_residual-in_err-check_place.result c.from_residual-in_err-check_place.ensures.1 in
    rw (p.1, p.2) (Reads-then _ (c.in_ok-room.ensures (g.I.Inlet.seen c.args.inlet.now))
    (Reads-then _ c.in_ok-fill.ensures
    (Reads-then _ c.in_ok-read_captured.ensures
    (Reads-then _ (rw c.as_slice-options.ensures.value at
    (c.in_ok-clock.ensures (g.I.Inlet.seen c.read_captured.new.inlet)))
    (Reads-then _ c.in_ok-read_closed.ensures
    (Reads-exit _ (rw c.count.ensures at
    (c.in_err-check_place.ensures (g.I.Inlet.seen c.read_closed.new.inlet)))))))))

pub returns : goal.returns
unfolding interface_at
returns g c =
    (Reads-then _ (c.in_ok-room.ensures (g.I.Inlet.seen c.args.inlet.now))
    (Reads-then _ c.in_ok-fill.ensures
    (Reads-then _ c.in_ok-read_captured.ensures
    (Reads-then _ (rw c.as_slice-options.ensures.value at
    (c.in_ok-clock.ensures (g.I.Inlet.seen c.read_captured.new.inlet)))
    (Reads-then _ c.in_ok-read_closed.ensures
    (Reads-then _ (rw c.count.ensures at
    (c.in_ok-check_place.ensures (g.I.Inlet.seen c.read_closed.new.inlet)))
    (Reads-is _ _ (ap₂ (λ (a b : ℕ). interface_made a b c.in_ok-clock.clock)
    (c.from.ensures ∙ c.u16_at-link.ensures) c.u32_at-snap.ensures))))))))
