-- The output is the outcome of the lines so far.
use Rattle.std.proofs.Common.{map, length, ◌≤◌}
use Rattle.swimunwrap.specs.Lines.{AllBecome}
use Rattle.swimunwrap.proofs.lines.unwrap_lines.Given as goal

abbrev pub invariant-loop-index : goal.invariant-loop-index
invariant-loop-index l =
    (goal.iterator-loop-index).can_next l.index-iterator ×
    (goal.iterator-loop-index).is_finite l.index-iterator ×
    AllBecome l.clear l.keys l.skip (map (λ p. p.1.now) l.yielded) l.unwrapped.text l.unwrapped.causes ×
    (length l.unwrapped.text ≤ 268435456)
