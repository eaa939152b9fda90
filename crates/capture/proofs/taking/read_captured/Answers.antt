use Rattle.capture.proofs.Parts.{captured-long, captured-short}
use Rattle.capture.proofs.taking.read_captured.Goals as goal

pub returns-then-length-gt-MAX_CAPTURED_LEN : goal.returns-then-length-gt-MAX_CAPTURED_LEN
returns-then-length-gt-MAX_CAPTURED_LEN g c = captured-long c.args.length c.if-length-gt-MAX_CAPTURED_LEN.true

pub returns : goal.returns
returns g c = captured-short c.args.length c.read_part.result c.if-length-gt-MAX_CAPTURED_LEN.false c.read_part.ensures
