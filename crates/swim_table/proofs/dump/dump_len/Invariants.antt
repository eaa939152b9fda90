use Rattle.std.proofs.Common.{◌≡◌, ◌≤◌, ◌+◌, ◌*◌, ◌^◌, length}
use Rattle.std.specs.List.{flat_map}
use Rattle.swim_wire.specs.Canonical.{state_bytes}
use Rattle.swim_table.specs.Table.{Reduced}
use Rattle.swim_table.proofs.dump.dump_len.Given as goal

abbrev pub invariant-loop-entry : goal.invariant-loop-entry
invariant-loop-entry l = record {
  counted : l.len + length (flat_map state_bytes (Reduced l.entry-iterator)) ≡ l.initial.len + length
      (flat_map state_bytes (Reduced l.fn.table));
  small : l.len + 2 ^ 16 * length (Reduced l.entry-iterator) ≤ l.initial.len + 2 ^ 16 * length (Reduced l.fn.table);
}
