use Rattle.memberlist_cipher.proofs.Causes.{lacking_stream}
use Rattle.memberlist_cipher.proofs.key.Key.decrypt_stream.Goals as goal

pub returns-clause-lacks : goal.returns-clause-lacks
returns-clause-lacks c = lacking_stream c.opened_stream_under.result c.args.self.now c.args.label.now
    c.args.bytes.now c.opened_stream_under.ensures.refuses
