use Rattle.std.proofs.Common.{◌≡◌, ◌+◌, ◌++◌, length, take}
use Rattle.std.specs.List.{flat_map}
use Rattle.swim_wire.specs.Canonical.{state_bytes}
use Rattle.swim_table.specs.Table.{Reduced}
use Rattle.swim_table.proofs.dump.encode_into.Given as goal

abbrev pub invariant-loop-entry : goal.invariant-loop-entry
invariant-loop-entry l = record {
  put : take l.at l.out ++ flat_map state_bytes
      (Reduced l.entry-iterator) ≡ take l.initial.at l.initial.out ++ flat_map state_bytes
      (Reduced l.fn.table);
  place : l.at + length (flat_map state_bytes (Reduced l.entry-iterator)) ≡ l.initial.at + length
      (flat_map state_bytes (Reduced l.fn.table));
}
