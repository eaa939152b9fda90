use Rattle.capture.specs.OpenFlows.{flows_len}
use Rattle.capture_tests.proofs.tests.flows.what_is_left_is_given_at_the_end.Given as goal

abbrev pub decreases-loop-flow : goal.decreases-loop-flow
decreases-loop-flow g l = flows_len l.flows
