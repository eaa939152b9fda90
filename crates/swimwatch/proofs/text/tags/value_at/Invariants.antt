use Rattle.std.proofs.Common.{◌≡◌, ℕ, ◌+◌}
use Rattle.swimwatch.specs.Knowing.{value_of, whole_tags}
use Rattle.swimwatch.proofs.text.tags.value_at.Given as goal

abbrev pub invariant-loop : goal.invariant-loop
invariant-loop l =
    (rest : ℕ) → l.counter + rest ≡ l.count
    → value_of (whole_tags rest l.bytes) l.key ≡ value_of (whole_tags l.count l.fn.bytes) l.key
