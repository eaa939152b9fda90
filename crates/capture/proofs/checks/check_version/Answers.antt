use Rattle.capture.proofs.Checking.{version-right, version-wrong}
use Rattle.capture.proofs.checks.check_version.Goals as goal

pub returns-then-major-wanted : goal.returns-then-major-wanted
returns-then-major-wanted c = λ at. version-right c.args.wanted c.args.major tt at c.if-major-wanted.true

pub returns-else-major-wanted : goal.returns-else-major-wanted
returns-else-major-wanted c = λ at. version-wrong c.args.wanted c.args.major at c.if-major-wanted.false
