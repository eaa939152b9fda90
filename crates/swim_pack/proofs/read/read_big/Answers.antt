use Rattle.std.proofs.lemmas.List.{length-take-le}
use Rattle.std.proofs.lemmas.Result.{err_from_is_err_and}
use Rattle.swim_pack.specs.Reading.{big_at}
use Rattle.swim_pack.proofs.Composing.{Reads-exit}
use Rattle.swim_pack.proofs.read.read_big.Goals as goal

pub returns-in_err-fill-clause-exact : goal.returns-in_err-fill-clause-exact
unfolding big_at
returns-in_err-fill-clause-exact g c =
    let p = err_from_is_err_and c.from_residual.result c.from_residual.ensures.1 in
    rw (p.1, p.2) (Reads-exit _ (rw (length-take-le c.args.size _ c.requires.high) at c.in_err-fill.ensures.exact))
