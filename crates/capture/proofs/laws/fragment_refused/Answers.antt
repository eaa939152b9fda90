use Rattle.capture.proofs.Written.{fragment_back}
use Rattle.capture.proofs.laws.fragment_refused.Goals as goal

pub returns : goal.returns
returns c = fragment_back
