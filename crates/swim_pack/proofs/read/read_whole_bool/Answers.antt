use Rattle.std.proofs.lemmas.Result.{err_from_is_err_and}
use Rattle.swim_pack.specs.Reading.{flag_at}
use Rattle.swim_pack.proofs.Composing.{Reads-exit}
use Rattle.swim_pack.proofs.read.read_whole_bool.Goals as goal

pub returns-in_err-first-clause-exact : goal.returns-in_err-first-clause-exact
unfolding flag_at
returns-in_err-first-clause-exact g c =
    let p = err_from_is_err_and c.from_residual.result c.from_residual.ensures.1 in
    rw (p.1, p.2) (Reads-exit _ c.in_err-first.ensures.exact)
