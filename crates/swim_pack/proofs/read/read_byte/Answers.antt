use Rattle.std.proofs.lemmas.Result.{err_from_is_err_and}
use Rattle.swim_pack.proofs.Pulls.{Reads-no_byte}
use Rattle.swim_pack.proofs.read.read_byte.Goals as goal

pub returns-in_err-fill-clause-exact : goal.returns-in_err-fill-clause-exact
returns-in_err-fill-clause-exact g c =
    let p = err_from_is_err_and c.from_residual.result c.from_residual.ensures.1 in
    rw (p.1, p.2) (Reads-no_byte c.in_err-fill.ensures.exact)
