use Rattle.std.proofs.Common.{◌+◌, ◌-◌, ◌≤◌, ◌^◌, ◌++◌, ◌∷◌, [], length}
use Rattle.capture.specs.Flows.{placed, SaysFrom}
use Rattle.capture.proofs.piece.gathered.Given as goal

abbrev pub invariant-loop-part : goal.invariant-loop-part
invariant-loop-part l =
    SaysFrom (l.pieces ++ placed l.at l.bytes ∷ []) l.here l.found.items × (l.here + length l.found.items ≤ 2 ^ 25)

abbrev pub decreases-loop-part : goal.decreases-loop-part
decreases-loop-part l = 2 ^ 25 - (l.here + length l.found.items)
