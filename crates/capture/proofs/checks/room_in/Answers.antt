use Rattle.capture.proofs.Checking.{room-right, room-odd, room-short}
use Rattle.capture.proofs.checks.room_in.Goals as goal

pub returns-then-odd-ne0 : goal.returns-then-odd-ne0
returns-then-odd-ne0 c = λ at. room-odd c.args.fields c.args.total at c.if-odd-ne0.true

pub returns-then-total-least : goal.returns-then-total-least
returns-then-total-least c = λ at. room-short c.args.fields c.args.total at c.if-odd-ne0.false c.if-total-least.true

pub returns : goal.returns
returns c = λ at. room-right c.args.fields c.args.total at c.if-odd-ne0.false c.if-total-least.false
