use Rattle.std.proofs.Common.{◌≡◌, ◌≤◌, ◌+◌, ℕ, List, length}
use Rattle.std.specs.Io.KnownBytes.{Consumes}
use Rattle.swim_wire.proofs.user_state.skip_user.Given as goal

abbrev pub invariant-loop-left : goal.invariant-loop-left
invariant-loop-left g l = record {
  dropped : (bytes : List ℕ) × Consumes (g.I.Inlet.seen l.fn.inlet).coming
      (g.I.Inlet.seen l.inlet).coming bytes × (length bytes + l.left ≡ l.len);
  faults : (g.I.Inlet.seen l.fn.inlet).faults ≤ (g.I.Inlet.seen l.inlet).faults;
}

abbrev pub decreases-loop-left : goal.decreases-loop-left
decreases-loop-left g l = l.left
