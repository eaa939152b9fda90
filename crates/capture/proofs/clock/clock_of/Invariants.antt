use Rattle.std.proofs.Common.{◌≡◌, ◌<◌, ℕ, length}
use Rattle.capture.specs.Clock.{with_options, clock_of}
use Rattle.capture.proofs.clock.clock_of.Given as goal

abbrev pub invariant-loop-rest : goal.invariant-loop-rest
invariant-loop-rest l = record {
  same : (n : ℕ) × (length l.rest < n) × (with_options n l.order l.rest l.clock ≡ clock_of l.order l.options);
}

abbrev pub decreases-loop-rest : goal.decreases-loop-rest
decreases-loop-rest l = length l.rest
