use Rattle.std.proofs.Common.{◌≡◌, ◌-◌, length}
use Rattle.memberlist_message.specs.Reading.{pairs_at}
use Rattle.memberlist_message.specs.declared.fields.TheConstants.{SLOTS}
use Rattle.memberlist_message.specs.Values.{slots_of}
use Rattle.memberlist_message.proofs.fields.read_pairs.Given as goal

abbrev pub invariant-loop : goal.invariant-loop
invariant-loop l = record {
  long : length l.values ≡ SLOTS;
  same : pairs_at l.layout (l.pairs - l.counter) (slots_of l.values) l.rest ≡ pairs_at l.layout l.pairs (slots_of l.fn.values) l.bytes;
}
