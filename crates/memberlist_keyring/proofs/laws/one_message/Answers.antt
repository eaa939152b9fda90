use Rattle.memberlist_keyring.proofs.OneOpened.{one_opened, one_opened_stream}
use Rattle.memberlist_keyring.proofs.laws.one_message.Goals as goal

pub returns-clause-packet : goal.returns-clause-packet
returns-clause-packet c = one_opened

pub returns-clause-stream : goal.returns-clause-stream
returns-clause-stream c = one_opened_stream
