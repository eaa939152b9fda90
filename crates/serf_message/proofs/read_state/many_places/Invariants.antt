use Rattle.std.proofs.Common.{◌≡◌, ◌-◌, map}
use Rattle.serf_message.specs.Many.{many_at}
use Rattle.serf_message.specs.States.{place_at, place_value}
use Rattle.serf_message.proofs.Listing.{before}
use Rattle.serf_message.proofs.read_state.many_places.Given as goal

abbrev pub invariant-loop : goal.invariant-loop
invariant-loop l =
    many_at place_at l.count l.bytes ≡ before (map place_value l.list.items) (many_at place_at (l.count - l.counter) l.rest)
