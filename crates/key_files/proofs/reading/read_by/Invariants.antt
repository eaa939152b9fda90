use Rattle.std.proofs.Common.{◌-◌, ◌≤◌, ◌≡◌, length}
use Rattle.std.specs.Io.KnownBytes.{Consumes}
use Rattle.key_files.proofs.reading.read_by.Given as goal

abbrev pub invariant-loop-text : goal.invariant-loop-text
invariant-loop-text g l =
    (length l.text ≤ 268435457) × (length l.piece ≡ 4096)
    × Consumes (g.R.Read.remaining l.initial.reader) (g.R.Read.remaining l.reader) l.text

abbrev pub decreases-loop-text : goal.decreases-loop-text
decreases-loop-text g l = 268435457 - length l.text
