use Rattle.memberlist_cipher.proofs.Causes.{lacking}
use Rattle.memberlist_cipher.proofs.key.Key.decrypt.Goals as goal

pub returns-clause-lacks : goal.returns-clause-lacks
returns-clause-lacks c = lacking c.opened_under.result c.args.self.now c.args.aad.now c.args.bytes.now c.opened_under.ensures.refuses
