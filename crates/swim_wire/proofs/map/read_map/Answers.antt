use Rattle.std.proofs.Common.{◌≡◌, ◌+◌, ◌-◌, ◌<◌, length, arith}
use Rattle.std.proofs.lemmas.List.{length-map}
use Rattle.std.proofs.lemmas.Result.{err_from_is_err_and}
use Rattle.swim_pack.specs.Reading.{count_at}
use Rattle.swim_wire.specs.declared.layout.Field.{Field}
use Rattle.swim_wire.specs.Keys.{key_text}
use Rattle.swim_wire.specs.Reading.{map_at}
use Rattle.swim_wire.specs.Slots.{layout_of}
use Rattle.swim_wire.proofs.Asking.{fault_exits, map_asks, first_asks, later_asks}
use Rattle.swim_wire.proofs.Fitting.{FitsEach-nones}
use Rattle.swim_wire.proofs.Lifting.{Wire-err}
use Rattle.swim_wire.proofs.MapReads.{Completes-start, Completes-pair, Completes-exit, Completes-end}
use Rattle.swim_wire.proofs.WholeReads.{Reads-exits}
use Rattle.swim_wire.proofs.map.read_map.Goals as goal

pub returns-in_err-count-clause-exact : goal.returns-in_err-count-clause-exact
unfolding map_at
returns-in_err-count-clause-exact g c =
    let keys : length (layout_of c.args.layout.now) ≡ length c.args.layout.now =
    length-map c.args.layout.now (λ (field : Field). (key_text field.key, field.limit)) in
    rw keys (Reads-exits _ _ c.from_residual.ensures.1 (Wire-err c.in_err-count.ensures.exact))

pub loop-init : goal.loop-init
unfolding map_at
loop-init g c =
    let all : c.in_ok-count.count - 0 ≡ c.in_ok-count.count = omega arith in
    let keys : length (layout_of c.args.layout.now) ≡ length c.args.layout.now =
    length-map c.args.layout.now (λ (field : Field). (key_text field.key, field.limit)) in (
      FitsEach-nones c.args.layout.now 8 c.requires.few,
      rw (all, keys) (Completes-start _ _ (count_at (length c.args.layout.now)) _ _ c.in_ok-count.ensures.exact),
      rw all (map_asks (layout_of c.args.layout.now) (length c.args.layout.now) keys c.in_ok-count.ensures.exact),
    )

pub returns-in_err-read_pair-clause-exact : goal.returns-in_err-read_pair-clause-exact
returns-in_err-read_pair-clause-exact g c =
    let p = err_from_is_err_and c.from_residual-in_err-read_pair.result c.from_residual-in_err-read_pair.ensures.1 in
    rw (p.1, p.2) (Completes-exit _ _ _ _ _ _ _ _ (omega arith) c.loop.invariant.1 c.in_err-read_pair.ensures.exact)

pub returns-in_err-read_pair-clause-memory : goal.returns-in_err-read_pair-clause-memory
returns-in_err-read_pair-clause-memory g c =
    let left : 0 < c.in_ok-count.count - c.loop.counter = omega arith in
    fault_exits _ c.from_residual-in_err-read_pair.ensures.1
    (λ is. c.loop.invariant.2 (first_asks _ _ _ left (c.in_err-read_pair.ensures.memory is)))

pub loop-preserved : goal.loop-preserved
loop-preserved g c =
    let one : c.in_ok-count.count - (c.loop.counter + 1) ≡ c.in_ok-count.count - c.loop.counter - 1 = omega arith in
    let left : 0 < c.in_ok-count.count - c.loop.counter = omega arith in (
      c.in_ok-read_pair.ensures.within,
      rw one (Completes-pair _ _ _ _ _ _ _ left c.loop.invariant.1 c.in_ok-read_pair.ensures.exact),
      rw one (λ asks. c.loop.invariant.2 (later_asks _ _ _ left c.in_ok-read_pair.ensures.exact asks)),
    )

pub returns-clause-exact : goal.returns-clause-exact
returns-clause-exact g c = Completes-end _ _ _ _ _ _ (omega arith) c.loop.invariant.1
