use Rattle.swim_wire.proofs.Reasons.{Header-takes, Header-lacks, Header-reason}
use Rattle.swim_wire.proofs.stream.read_header.Goals as goal

pub returns-clause-takes : goal.returns-clause-takes
returns-clause-takes g c = Header-takes c.read_whole_header.result c.read_whole_header.ensures.exact

pub returns-clause-lacks : goal.returns-clause-lacks
returns-clause-lacks g c = Header-lacks c.read_whole_header.result c.read_whole_header.ensures.exact

pub returns-clause-reason : goal.returns-clause-reason
returns-clause-reason g c = Header-reason c.read_whole_header.result c.read_whole_header.ensures.no_memory c.read_whole_header.ensures.exact
