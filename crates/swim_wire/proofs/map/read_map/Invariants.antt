use Rattle.std.proofs.Common.{◌-◌}
use Rattle.swim_wire.specs.Asking.{PairsAsk, MapAsks}
use Rattle.swim_wire.specs.Checks.{ReasonForStart}
use Rattle.swim_wire.specs.Reading.{pairs_at, map_at}
use Rattle.swim_wire.specs.Slots.{FitsEach, slots_of, layout_of}
use Rattle.swim_wire.proofs.MapReads.{Completes}
use Rattle.swim_wire.proofs.map.read_map.Given as goal

abbrev pub invariant-loop : goal.invariant-loop
invariant-loop g l =
    FitsEach l.layout l.values
    × Completes (g.I.Inlet.seen l.fn.inlet) (g.I.Inlet.seen l.inlet) (map_at (layout_of l.layout))
    (pairs_at (layout_of l.layout) (l.count - l.counter) (slots_of l.values))
    × (ReasonForStart (PairsAsk (layout_of l.layout) (l.count - l.counter)) (g.I.Inlet.seen l.inlet)
    → ReasonForStart (MapAsks (layout_of l.layout)) (g.I.Inlet.seen l.fn.inlet))
