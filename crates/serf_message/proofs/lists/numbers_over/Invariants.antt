use Rattle.std.proofs.Common.{◌≡◌, ◌≤◌, ◌-◌, length, take, drop}
use Rattle.serf_message.specs.Reading.{numbers_at}
use Rattle.serf_message.proofs.Listed.{behind}
use Rattle.serf_message.proofs.lists.numbers_over.Given as goal

abbrev pub invariant-loop-i : goal.invariant-loop-i
invariant-loop-i l = record {
  inside : l.i ≤ length l.written.items;
  same : numbers_at l.count l.bytes ≡ behind (take l.i l.written.items) (numbers_at (l.count - l.i) l.rest);
  kept : drop l.i l.written.items ≡ drop l.i l.fn.old.items;
}
