use Rattle.capture.proofs.Written.{segment_back}
use Rattle.capture.proofs.laws.segment_read_back.Goals as goal

pub returns : goal.returns
returns c = segment_back
