-- There is a slot at the place.
use Rattle.std.proofs.Common.{◌<◌}
use Rattle.memberlist_compress.specs.Slots.{slots_len}
use Rattle.memberlist_compress.proofs.table.Table.find.Given as goal

abbrev pub invariant-loop : goal.invariant-loop
invariant-loop l = l.place < slots_len
