use Rattle.std.proofs.Common.{length, ◌-◌, ◌+◌}
use Rattle.tiered_vec.specs.Tiers.{items, IsPlaceOf}
use Rattle.swim_table.proofs.Covering.{IsCoveredSoFar}
use Rattle.swim_table.proofs.comparing.is_covered.Given as goal

abbrev pub invariant-loop-i : goal.invariant-loop-i
invariant-loop-i l = record {
  covered : IsCoveredSoFar (items l.first) (items l.second) l.i l.j;
  own : IsPlaceOf l.first.blocks l.i l.own;
  other : IsPlaceOf l.second.blocks l.j l.other;
}

abbrev pub decreases-loop-i : goal.decreases-loop-i
decreases-loop-i l = (length (items l.first) - l.i) + (length (items l.second) - l.j)
