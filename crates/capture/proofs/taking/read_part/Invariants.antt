use Rattle.std.proofs.Common.{◌≡◌, ◌≤◌, ◌+◌, length}
use Rattle.std.specs.Io.KnownBytes.{Consumes}
use Rattle.capture.proofs.taking.read_part.Given as goal

abbrev pub invariant-loop-left : goal.invariant-loop-left
invariant-loop-left g l = record {
  taken : Consumes (g.I.Inlet.seen l.fn.inlet).coming (g.I.Inlet.seen l.inlet).coming l.bytes.items;
  sum : length l.bytes.items + l.left ≡ l.len;
  faults : (g.I.Inlet.seen l.fn.inlet).faults ≤ (g.I.Inlet.seen l.inlet).faults;
}

abbrev pub decreases-loop-left : goal.decreases-loop-left
decreases-loop-left g l = l.left
