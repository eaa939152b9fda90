use Rattle.std.proofs.Common.{◌≡◌, ◌++◌, take, map}
use Rattle.std.specs.List.{flat_map}
use Rattle.serf_message.specs.States.{status_text, status_value}
use Rattle.serf_message.proofs.write_state.write_each_status.Given as goal

abbrev pub invariant-loop-status : goal.invariant-loop-status
invariant-loop-status l = l.out.items ≡ l.initial.out.items ++ flat_map status_text (map status_value (take l.status-index l.list))
