use Rattle.std.proofs.Common.{◌≡◌, ◌++◌, take}
use Rattle.std.specs.List.{flat_map}
use Rattle.serf_message.specs.Writing.{entry_text, entries_of}
use Rattle.serf_message.proofs.pairs.append_pairs.Given as goal

abbrev pub invariant-loop-key : goal.invariant-loop-key
invariant-loop-key l = l.out.items ≡ l.initial.out.items ++ flat_map entry_text (entries_of (take l.key-index l.pairs))
