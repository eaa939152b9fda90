use Rattle.std.proofs.Common.{◌≡◌, ◌<◌, ◌*◌, ◌/◌, ◌^◌}
use Rattle.capture.proofs.clock.Clock.unshifted.Given as goal

abbrev pub invariant-loop : goal.invariant-loop
invariant-loop l = record {
  divided : l.nanos ≡ l.count * 1000000000 / 10 ^ l.counter;
  bound : l.nanos < 2 ^ 64 * 1000000000;
}
