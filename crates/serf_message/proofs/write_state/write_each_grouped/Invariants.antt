use Rattle.std.proofs.Common.{◌≡◌, ◌++◌, take, map}
use Rattle.std.specs.List.{flat_map}
use Rattle.serf_message.specs.States.{grouped_text, grouped_value}
use Rattle.serf_message.proofs.write_state.write_each_grouped.Given as goal

abbrev pub invariant-loop-event : goal.invariant-loop-event
invariant-loop-event l = l.out.items ≡ l.initial.out.items ++ flat_map grouped_text (map grouped_value (take l.event-index l.list))
