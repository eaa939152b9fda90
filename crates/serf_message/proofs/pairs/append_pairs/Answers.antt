use Rattle.serf_message.proofs.SpelledSteps.{flat_map-one_more, each_holds}
use Rattle.serf_message.specs.declared.layout.Key.{Key}
use Rattle.serf_message.specs.declared.pairs.Written.{Written}
use Rattle.serf_message.specs.Writing.{entry_text, entry_of, FitsTwoBytes}
use Rattle.serf_message.proofs.pairs.append_pairs.Goals as goal

pub loop-key-preserved : goal.loop-key-preserved
loop-key-preserved c = flat_map-one_more entry_text entry_of _ _ _ _ _ _ c.loop-key-test.true
    c.loop-key.invariant c.in_ok-append_pair.ensures

pub append_pair-requires : goal.append_pair-requires
append_pair-requires c = each_holds
    (λ (pair : Key × Written). FitsTwoBytes pair.1) c.args.pairs.now c.loop-key.key-index _ c.requires
    c.loop-key-test.true
