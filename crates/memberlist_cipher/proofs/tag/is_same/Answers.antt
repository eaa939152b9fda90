use Rattle.memberlist_cipher.proofs.Tags.{same_is}
use Rattle.memberlist_cipher.proofs.tag.is_same.Goals as goal

pub returns : goal.returns
returns c = same_is c.args.a.now c.args.b.now c.requires.first c.requires.second
