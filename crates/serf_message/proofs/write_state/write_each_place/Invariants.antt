use Rattle.std.proofs.Common.{◌≡◌, ◌++◌, take, map}
use Rattle.std.specs.List.{flat_map}
use Rattle.serf_message.specs.States.{place_text, place_value}
use Rattle.serf_message.proofs.write_state.write_each_place.Given as goal

abbrev pub invariant-loop-place : goal.invariant-loop-place
invariant-loop-place l = l.out.items ≡ l.initial.out.items ++ flat_map place_text (map place_value (take l.place-index l.list))
