use Rattle.capture.proofs.Saying.{one_text}
use Rattle.capture.proofs.laws.one_text.Goals as goal

pub returns : goal.returns
returns c = one_text
