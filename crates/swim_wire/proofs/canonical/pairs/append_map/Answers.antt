use Rattle.swim_wire.specs.Pairs.{pair_text, pair_of}
use Rattle.swim_wire.proofs.SpelledSteps.{flat_map-one_more}
use Rattle.swim_wire.proofs.canonical.pairs.append_map.Goals as goal

pub loop-key-preserved : goal.loop-key-preserved
loop-key-preserved c = flat_map-one_more pair_text pair_of _ _ _ _ _ _ c.loop-key-test.true c.loop-key.invariant c.in_ok-append_pair.ensures
