use Rattle.capture.proofs.Checking.{place-free, place-none}
use Rattle.capture.proofs.checks.check_place.Goals as goal

pub returns-then-count-lt-MAX_INTERFACES : goal.returns-then-count-lt-MAX_INTERFACES
returns-then-count-lt-MAX_INTERFACES c = λ at. place-free c.args.count tt at c.if-count-lt-MAX_INTERFACES.true

pub returns-else-count-lt-MAX_INTERFACES : goal.returns-else-count-lt-MAX_INTERFACES
returns-else-count-lt-MAX_INTERFACES c = λ at. place-none c.args.count at c.if-count-lt-MAX_INTERFACES.false
