use Rattle.std.proofs.Common.{◌≡◌, ◌≤◌, ◌+◌, ◌*◌, ◌^◌, length}
use Rattle.std.specs.List.{flat_map}
use Rattle.swim_table.specs.MemberlistDump.{entry_bytes, told_of}
use Rattle.swim_table.proofs.memberlist_dump.memberlist_dump_len.Given as goal

abbrev pub invariant-loop-entry : goal.invariant-loop-entry
invariant-loop-entry l = record {
  counted : l.len + length (flat_map entry_bytes l.entry-iterator) ≡ l.initial.len + length (flat_map entry_bytes l.fn.table);
  small : l.len + 2 ^ 16 * length (told_of l.entry-iterator) ≤ l.initial.len + 2 ^ 16 * length (told_of l.fn.table);
}
