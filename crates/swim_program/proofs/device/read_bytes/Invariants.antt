use Rattle.std.proofs.Common.{◌-◌, ◌≤◌, vec_len}
use Rattle.std.specs.Io.KnownBytes.{Consumes}
use Rattle.swim_program.proofs.device.read_bytes.Given as goal

abbrev pub invariant-loop-piece : goal.invariant-loop-piece
invariant-loop-piece g l =
    (vec_len l.bytes ≤ 268435457)
    × Consumes (g.R.Read.remaining l.initial.reader) (g.R.Read.remaining l.reader) l.bytes.items

abbrev pub decreases-loop-piece : goal.decreases-loop-piece
decreases-loop-piece g l = 268435457 - vec_len l.bytes
