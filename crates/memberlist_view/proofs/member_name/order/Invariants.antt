use Rattle.std.proofs.Common.{◌≡◌, length}
use Rattle.std.specs.Ordering.{nat_cmp}
use Rattle.std.specs.Cmp.Lexicographic.{slice_cmp}
use Rattle.memberlist_view.proofs.Words.{Bytes}
use Rattle.memberlist_view.proofs.member_name.order.Given as goal

abbrev pub invariant-loop-one : goal.invariant-loop-one
invariant-loop-one l = record {
  same : slice_cmp nat_cmp l.one l.other ≡ slice_cmp nat_cmp l.fn.one l.fn.other;
  bytes : Bytes l.one;
  others : Bytes l.other;
}

abbrev pub decreases-loop-one : goal.decreases-loop-one
decreases-loop-one l = length l.one
