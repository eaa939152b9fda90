use Rattle.std.proofs.Common.{◌≡◌, ◌≤◌, ◌+◌, length}
use Rattle.swim_table.specs.MemberlistDump.{told_of}
use Rattle.swim_table.proofs.memberlist_dump.memberlist_records.Given as goal

abbrev pub invariant-loop-entry : goal.invariant-loop-entry
invariant-loop-entry l = record {
  counted : l.records + length (told_of l.entry-iterator) ≡ length (told_of l.fn.table);
  few : l.records + length l.entry-iterator ≤ length l.fn.table;
}
