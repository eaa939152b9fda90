use Rattle.std.proofs.Common.{◌≡◌, ◌≤◌, length}
use Rattle.tiered_vec.specs.Tiers.{items, room}
use Rattle.swim_table.specs.Table.{IsAscending}
use Rattle.swim_table.specs.Join.{put_each}
use Rattle.swim_table.proofs.placing.put_entries.Given as goal

abbrev pub invariant-loop-other : goal.invariant-loop-other
invariant-loop-other l = record {
  whole : put_each (items l.entries) l.other-iterator ≡ put_each (items l.fn.entries) (items l.fn.others);
  ascending : IsAscending (items l.entries);
  room : length l.other-iterator ≤ room l.entries;
}
