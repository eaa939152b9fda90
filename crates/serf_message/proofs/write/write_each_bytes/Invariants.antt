use Rattle.std.proofs.Common.{◌≡◌, ◌++◌, take, map}
use Rattle.std.specs.List.{flat_map}
use Rattle.serf_message.specs.Writing.{bytes_text}
use Rattle.serf_message.proofs.write.write_each_bytes.Given as goal

abbrev pub invariant-loop-value : goal.invariant-loop-value
invariant-loop-value l = l.out.items ≡ l.initial.out.items ++ flat_map bytes_text (map (λ v. v.items) (take l.value-index l.list))
