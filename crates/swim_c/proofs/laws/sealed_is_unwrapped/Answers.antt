use Rattle.swim_c.proofs.Unsealing.{packet_again, no_other, stream_again, behind_again, reply_again}
use Rattle.swim_c.proofs.laws.sealed_is_unwrapped.Goals as goal

pub returns-clause-packet : goal.returns-clause-packet
returns-clause-packet c = packet_again

pub returns-clause-no_other : goal.returns-clause-no_other
returns-clause-no_other c = no_other

pub returns-clause-stream : goal.returns-clause-stream
returns-clause-stream c = stream_again

pub returns-clause-behind : goal.returns-clause-behind
returns-clause-behind c = behind_again

pub returns-clause-reply : goal.returns-clause-reply
returns-clause-reply c = reply_again
