use Rattle.std.proofs.Common.{◌≡◌, length, drop}
use Rattle.memberlist_message.specs.Reading.{elements_at}
use Rattle.memberlist_message.specs.declared.fields.TheConstants.{SLOTS}
use Rattle.memberlist_message.specs.Values.{slots_of}
use Rattle.memberlist_message.proofs.fields.read_elements.Given as goal

abbrev pub invariant-loop-place : goal.invariant-loop-place
invariant-loop-place l = record {
  long : length l.values ≡ SLOTS;
  same : elements_at (drop l.place l.layout) l.place l.left (slots_of l.values) l.rest
      ≡ elements_at l.layout 0 l.elements (slots_of l.fn.values) l.bytes;
}
