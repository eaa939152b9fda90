use Rattle.memberlist_cipher.proofs.Causes.{lacking}
use Rattle.memberlist_cipher.proofs.decryption.decrypt.Goals as goal

pub returns-clause-lacks : goal.returns-clause-lacks
returns-clause-lacks c = lacking c.opened.result c.args.key.now c.args.aad.now c.args.bytes.now c.opened.ensures.refuses
