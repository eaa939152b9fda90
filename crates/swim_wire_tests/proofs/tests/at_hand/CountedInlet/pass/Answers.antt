use Rattle.swim_pack.proofs.Refusals.{passed_front}
use Rattle.swim_wire_tests.proofs.tests.at_hand.CountedInlet.pass.Goals as goal

pub returns : goal.returns
returns c = record { passed = passed_front c.pass.result _ _ _ c.pass.ensures.passed c.pass.ensures.enough }
