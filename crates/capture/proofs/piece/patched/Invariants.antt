use Rattle.std.proofs.Common.{◌+◌, ◌-◌, ◌≤◌, ◌^◌, ◌++◌, ◌∷◌, [], length}
use Rattle.capture.specs.Flows.{placed, SaysFrom}
use Rattle.capture.proofs.piece.patched.Given as goal

abbrev pub invariant-loop-found : goal.invariant-loop-found
invariant-loop-found l =
    SaysFrom (l.pieces ++ placed l.at l.bytes ∷ []) l.here l.found.items × (l.here + length l.found.items ≤ 2 ^ 25)

abbrev pub decreases-loop-found : goal.decreases-loop-found
decreases-loop-found l = 2 ^ 25 - (l.here + length l.found.items)
