use Rattle.std.proofs.Common.{◌≡◌, ◌++◌, take}
use Rattle.std.specs.List.{flat_map}
use Rattle.serf_message.specs.Writing.{float_text}
use Rattle.serf_message.proofs.coordinate.write_each_float.Given as goal

abbrev pub invariant-loop-bits : goal.invariant-loop-bits
invariant-loop-bits l = l.out.items ≡ l.initial.out.items ++ flat_map float_text (take l.bits-index l.list)
