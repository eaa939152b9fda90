use Rattle.capture.proofs.Checking.{total-right, total-wrong}
use Rattle.capture.proofs.checks.check_total.Goals as goal

pub returns-then-again-total : goal.returns-then-again-total
returns-then-again-total c = λ at. total-right c.args.again c.args.total tt at c.if-again-total.true

pub returns-else-again-total : goal.returns-else-again-total
returns-else-again-total c = λ at. total-wrong c.args.again c.args.total at c.if-again-total.false
