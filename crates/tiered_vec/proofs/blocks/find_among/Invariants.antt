use Rattle.std.proofs.Common.{◌-◌, ◌≤◌, ◌<◌, length}
use Rattle.std.specs.declared.cmp.Ordering.{Ordering}
use Rattle.std.specs.Fn.{ComputesKey, always_mut}
use Rattle.tiered_vec.specs.Sound.{shape}
use Rattle.tiered_vec.proofs.Searching.{Narrowed}
use Rattle.tiered_vec.proofs.blocks.find_among.Given as goal

abbrev pub invariant-loop-high : goal.invariant-loop-high
invariant-loop-high g l = record {
  some : l.low < l.high;
  within : l.high ≤ length l.blocks;
  callable : always_mut g.F.FnMut l.f;
  narrowed : (ord : g.row.T.Denot → Ordering) → ComputesKey g.F.FnMut ord l.initial.f
      → ComputesKey g.F.FnMut ord l.f × Narrowed ord (shape l.blocks) l.low l.high;
}

abbrev pub decreases-loop-high : goal.decreases-loop-high
decreases-loop-high g l = l.high - l.low
