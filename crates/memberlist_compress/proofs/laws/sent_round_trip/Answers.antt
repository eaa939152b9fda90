use Rattle.memberlist_compress.proofs.Messages.{sent_there, sent_back}
use Rattle.memberlist_compress.proofs.laws.sent_round_trip.Goals as goal

pub returns-clause-there : goal.returns-clause-there
returns-clause-there c = sent_there

pub returns-clause-back : goal.returns-clause-back
returns-clause-back c = sent_back
