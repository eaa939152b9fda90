use Rattle.memberlist_cipher.proofs.block.cipher.Goals as goal

pub loop-round-preserved : goal.loop-round-preserved
loop-round-preserved c =
    c.advanced-state.ensures c.args.words.now c.args.block c.key_of.result c.loop-round.round
    c.loop-round.invariant c.key_of.ensures c.to_tower.ensures
