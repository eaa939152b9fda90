use Rattle.capture.proofs.Checking.{behind-right, behind-wrong}
use Rattle.capture.proofs.checks.room_behind.Goals as goal

pub returns-then-room-captured : goal.returns-then-room-captured
returns-then-room-captured c = λ at. behind-wrong c.args.captured c.args.room at c.if-room-captured.true

pub returns : goal.returns
returns c = λ at. behind-right c.args.captured c.args.room at c.if-room-captured.false
