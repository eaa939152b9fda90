use Rattle.memberlist_cipher.proofs.Once.{one_message, one_stream_message}
use Rattle.memberlist_cipher.proofs.laws.one_message.Goals as goal

pub returns-clause-packet : goal.returns-clause-packet
returns-clause-packet c = one_message

pub returns-clause-stream : goal.returns-clause-stream
returns-clause-stream c = one_stream_message
