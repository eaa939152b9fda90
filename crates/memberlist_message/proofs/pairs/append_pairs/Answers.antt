use Rattle.swim_wire.proofs.SpelledSteps.{flat_map-one_more}
use Rattle.memberlist_message.specs.Writing.{entry_text, entry_of}
use Rattle.memberlist_message.proofs.pairs.append_pairs.Goals as goal

pub loop-key-preserved : goal.loop-key-preserved
loop-key-preserved c = flat_map-one_more entry_text entry_of _ _ _ _ _ _ c.loop-key-test.true
    c.loop-key.invariant c.in_ok-append_pair.ensures
