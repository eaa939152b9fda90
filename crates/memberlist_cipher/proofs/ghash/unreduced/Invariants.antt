use Rattle.std.proofs.Common.{◌≡◌, ℕ, ◌+◌, ◌-◌, ◌<◌, ◌≤◌, ◌++◌, get_or}
use Rattle.memberlist_cipher.specs.Products.{poly, planes_sum}
use Rattle.memberlist_cipher.proofs.ghash.unreduced.Given as goal

abbrev pub invariant-loop-step : goal.invariant-loop-step
invariant-loop-step l = record {
  some : 1 ≤ l.step;
  value : poly (l.below ++ l.above) ≡ planes_sum l.planes l.step (16 - l.step) l.block;
  zero : (j : ℕ) → l.step ≤ j + 1 → j < 16 → get_or l.above j 0 ≡ 0;
}
