use Rattle.std.proofs.Common.{◌≤◌, ◌-◌, max}
use Rattle.std.specs.Io.KnownBytes.{Keeps}
use Rattle.swim_program.proofs.device.read_piece.Given as goal

abbrev pub invariant-loop-count : goal.invariant-loop-count
invariant-loop-count g l =
    (l.initial.interruptions ≤ l.interruptions) × (l.interruptions ≤ max l.initial.interruptions 1000)
    × Keeps (g.R.Read.remaining l.initial.reader) (g.R.Read.remaining l.reader)

abbrev pub decreases-loop-count : goal.decreases-loop-count
decreases-loop-count g l = 1000 - l.interruptions
