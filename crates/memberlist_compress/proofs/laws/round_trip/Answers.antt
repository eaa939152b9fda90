use Rattle.memberlist_compress.proofs.Messages.{unwraps_there, unwraps_back}
use Rattle.memberlist_compress.proofs.laws.round_trip.Goals as goal

pub returns-clause-there : goal.returns-clause-there
returns-clause-there c = unwraps_there

pub returns-clause-back : goal.returns-clause-back
returns-clause-back c = unwraps_back
