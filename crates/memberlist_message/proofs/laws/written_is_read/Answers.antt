use Rattle.memberlist_message.proofs.Entries.{ping_again, indirect_ping_again}
use Rattle.memberlist_message.proofs.Written.{ack_again, nack_again, user_again, error_again}
use Rattle.memberlist_message.proofs.laws.written_is_read.Goals as goal

pub returns : goal.returns
returns c = record {
  ping = ping_again;
  indirect_ping = indirect_ping_again;
  ack = ack_again;
  nack = nack_again;
  user = user_again;
  error = error_again;
}
