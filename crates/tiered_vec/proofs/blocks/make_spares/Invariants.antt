use Rattle.std.proofs.Common.{◌+◌, ◌-◌, ◌≤◌, length, vec_capacity, All}
use Rattle.tiered_vec.specs.Sound.{IsSpare}
use Rattle.tiered_vec.proofs.blocks.make_spares.Given as goal

abbrev pub invariant-loop-alloc : goal.invariant-loop-alloc
invariant-loop-alloc g l = record {
  empties : All IsSpare l.spares.items;
  more : length l.fn.spares.items ≤ length l.spares.items;
  room : length l.fn.blocks.items + l.n ≤ vec_capacity l.spares;
  few : length l.spares.items ≤ l.n;
}

abbrev pub decreases-loop-alloc : goal.decreases-loop-alloc
decreases-loop-alloc g l = l.n - length l.spares.items
