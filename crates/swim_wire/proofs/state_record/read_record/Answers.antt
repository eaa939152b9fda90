use Rattle.swim_wire.proofs.Reasons.{State-takes, State-lacks, State-reason}
use Rattle.swim_wire.proofs.state_record.read_record.Goals as goal

pub returns-clause-takes : goal.returns-clause-takes
returns-clause-takes g c = State-takes c.read_whole_record.result c.read_whole_record.ensures.claim

pub returns-clause-lacks : goal.returns-clause-lacks
returns-clause-lacks g c = State-lacks c.read_whole_record.result c.read_whole_record.ensures.claim

pub returns-clause-reason : goal.returns-clause-reason
returns-clause-reason g c = State-reason c.read_whole_record.result c.read_whole_record.ensures.memory c.read_whole_record.ensures.claim
