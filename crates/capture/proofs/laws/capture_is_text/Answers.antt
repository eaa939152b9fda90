use Rattle.capture.proofs.CaptureRead.{capture_text}
use Rattle.capture.proofs.laws.capture_is_text.Goals as goal

pub returns : goal.returns
returns c = capture_text
