use Rattle.memberlist_cipher.proofs.Keys.{key_is}
use Rattle.memberlist_cipher.proofs.block.key_of.Goals as goal

pub returns : goal.returns
returns c = key_is c.args.words.now c.args.round c.type_inv.words c.requires.words
