use Rattle.memberlist_cipher.proofs.block.cipher_four.Goals as goal

pub loop-round-preserved : goal.loop-round-preserved
loop-round-preserved c =
    let words = c.args.words.now in
    let n = c.loop-round.round in
    let key = c.key_of.result in
    record {
      first = c.advanced-a.ensures words c.args.blocks.0 key n c.loop-round.invariant.first c.key_of.ensures c.to_tower-key.ensures;
      second = c.advanced-b.ensures words c.args.blocks.1 key n c.loop-round.invariant.second c.key_of.ensures c.to_tower-key.ensures;
      third = c.advanced-c.ensures words c.args.blocks.2 key n c.loop-round.invariant.third c.key_of.ensures c.to_tower-key.ensures;
      fourth = c.advanced-d.ensures words c.args.blocks.3 key n c.loop-round.invariant.fourth c.key_of.ensures c.to_tower-key.ensures;
    }
