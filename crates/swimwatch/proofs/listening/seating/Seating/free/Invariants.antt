use Rattle.std.proofs.Common.{◌≡◌, ◌<◌, ℕ, None, IfSome}
use Rattle.swimwatch.specs.Seating.{IsFree}
use Rattle.swimwatch.proofs.listening.seating.Seating.free.Given as goal

abbrev pub invariant-loop-index : goal.invariant-loop-index
invariant-loop-index l = IfSome l.best (IsFree l.self)
    × (l.best ≡ None → (other : ℕ) → other < l.index → ¬ IsFree l.self other)
