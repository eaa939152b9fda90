use Rattle.std.proofs.Common.{◌≡◌, ◌*◌, ◌^◌, ◌≤◌, length, take}
use Rattle.std.specs.List.{sum_by}
use Rattle.capture.specs.Flows.{Placed}
use Rattle.capture.proofs.piece.total_len.Given as goal

abbrev pub invariant-loop-piece : goal.invariant-loop-piece
invariant-loop-piece l =
    (l.total ≡ sum_by (λ (s : Placed). length s.bytes) (take l.piece-index l.pieces))
    × (l.total ≤ l.piece-index * 2 ^ 25)
