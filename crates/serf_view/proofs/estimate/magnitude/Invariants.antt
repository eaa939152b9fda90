use Rattle.std.proofs.Common.{◌≡◌}
use Rattle.std.specs.Float.{float_zero}
use Rattle.serf_view.specs.RoundTrip.{squares_after}
use Rattle.serf_view.proofs.estimate.magnitude.Given as goal

abbrev pub invariant-loop-x : goal.invariant-loop-x
invariant-loop-x l =
    squares_after l.sum l.x-iterator.a.rest.now l.x-iterator.b.rest.now ≡ squares_after float_zero l.one l.other
