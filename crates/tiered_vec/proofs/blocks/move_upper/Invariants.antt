use Rattle.std.proofs.Common.{◌≡◌, ◌≤◌, ◌++◌, length, reverse, vec_capacity}
use Rattle.tiered_vec.specs.Tiers.{half_size}
use Rattle.tiered_vec.proofs.blocks.move_upper.Given as goal

abbrev pub invariant-loop-block : goal.invariant-loop-block
invariant-loop-block g l = record {
  whole : l.block.items ++ reverse l.upper.items ≡ l.fn.block.items;
  enough : half_size ≤ length l.block.items;
  block_room : vec_capacity l.block ≡ vec_capacity l.fn.block;
  upper_room : vec_capacity l.upper ≡ vec_capacity l.fn.upper;
}

abbrev pub decreases-loop-block : goal.decreases-loop-block
decreases-loop-block g l = length l.block.items
