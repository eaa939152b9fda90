use Rattle.std.proofs.Common.{◌≡◌, ℕ, ◌+◌}
use Rattle.swimwatch.specs.Knowing.{has_all, has_tags_of, whole_tags}
use Rattle.swimwatch.proofs.text.tags.has_tags_of.Given as goal

abbrev pub invariant-loop : goal.invariant-loop
invariant-loop l =
    (rest : ℕ) → l.counter + rest ≡ l.others
    → has_all rest (whole_tags l.count l.own) (whole_tags rest l.bytes) ≡ has_tags_of l.one l.other
