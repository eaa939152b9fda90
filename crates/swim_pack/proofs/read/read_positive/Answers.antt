use Rattle.std.proofs.lemmas.Result.{err_from_is_err_and}
use Rattle.swim_pack.specs.Reading.{positive_at}
use Rattle.swim_pack.proofs.Composing.{Reads-exit}
use Rattle.swim_pack.proofs.Heads.{Reads-positive, Reads-negative}
use Rattle.swim_pack.proofs.read.read_positive.Goals as goal

pub returns-in_err-number-clause-exact : goal.returns-in_err-number-clause-exact
unfolding positive_at
returns-in_err-number-clause-exact g c =
    let p = err_from_is_err_and c.from_residual.result c.from_residual.ensures.1 in
    rw (p.1, p.2) (Reads-exit _ c.in_err-number.ensures.exact)

pub returns-then-number-size-eq0-clause-exact : goal.returns-then-number-size-eq0-clause-exact
returns-then-number-size-eq0-clause-exact g c = Reads-positive _ _ c.if-number-size-eq0.true c.in_ok-number.ensures.exact

pub returns-else-number-size-eq0-clause-exact : goal.returns-else-number-size-eq0-clause-exact
returns-else-number-size-eq0-clause-exact g c = Reads-negative _ _ c.if-number-size-eq0.false c.in_ok-number.ensures.exact
