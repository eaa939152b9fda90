use Rattle.capture.proofs.CaptureText.{capture_back}
use Rattle.capture.proofs.laws.capture_read_back.Goals as goal

pub returns : goal.returns
returns c = capture_back
