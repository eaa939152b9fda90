use Rattle.std.proofs.Common.{◌≡◌, ◌≤◌, length}
use Rattle.std.specs.Vec.Iter.{into_iter_items, into_iter_len}
use Rattle.tiered_vec.specs.Tiers.{items, room}
use Rattle.swim_table.specs.Table.{IsAscending}
use Rattle.swim_table.specs.Join.{put_each}
use Rattle.swim_table.proofs.placing.put_all.Given as goal

abbrev pub invariant-loop-other : goal.invariant-loop-other
invariant-loop-other l = record {
  whole : put_each (items l.entries) (into_iter_items l.other-iterator) ≡ put_each (items l.fn.entries) l.fn.others.items;
  ascending : IsAscending (items l.entries);
  room : length (into_iter_items l.other-iterator) ≤ room l.entries;
  counted : into_iter_len l.other-iterator ≡ length (into_iter_items l.other-iterator);
}
