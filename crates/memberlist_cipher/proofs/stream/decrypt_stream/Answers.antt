use Rattle.memberlist_cipher.proofs.Causes.{lacking_stream}
use Rattle.memberlist_cipher.proofs.stream.decrypt_stream.Goals as goal

pub returns-clause-lacks : goal.returns-clause-lacks
returns-clause-lacks c = lacking_stream c.opened_stream.result c.args.key.now c.args.label.now
    c.args.bytes.now c.opened_stream.ensures.refuses
