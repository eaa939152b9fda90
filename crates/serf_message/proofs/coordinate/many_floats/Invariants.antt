use Rattle.std.proofs.Common.{◌≡◌, ◌-◌}
use Rattle.serf_message.specs.Many.{many_at}
use Rattle.serf_message.specs.Reading.{float_at}
use Rattle.serf_message.proofs.Listing.{before}
use Rattle.serf_message.proofs.coordinate.many_floats.Given as goal

abbrev pub invariant-loop : goal.invariant-loop
invariant-loop l =
    many_at float_at l.count l.bytes ≡ before (l.list.items) (many_at float_at (l.count - l.counter) l.rest)
