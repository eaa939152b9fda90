use Rattle.std.proofs.Common.{◌≡◌, ◌+◌, length, drop, slice_get}
use Rattle.memberlist_message.specs.Compounds.{parts_in}
use Rattle.swim_c.proofs.parts.span_among.Given as goal

abbrev pub invariant-loop-left : goal.invariant-loop-left
invariant-loop-left l = record {
  same : slice_get (parts_in l.initial.parts.lens l.initial.parts.bytes) l.fn.i ≡ slice_get (parts_in l.parts.lens l.parts.bytes) l.left;
  count : length (parts_in l.initial.parts.lens l.initial.parts.bytes) + l.left ≡ length (parts_in l.parts.lens l.parts.bytes) + l.fn.i;
  behind : drop l.at l.initial.parts.bytes ≡ l.parts.bytes;
  within : l.at + length l.parts.bytes ≡ length l.initial.parts.bytes;
}

abbrev pub decreases-loop-left : goal.decreases-loop-left
decreases-loop-left l = l.left
