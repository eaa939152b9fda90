use Rattle.std.proofs.Common.{◌∙◌}
use Rattle.std.proofs.lemmas.Result.{err_from_is_err_and}
use Rattle.std.proofs.lemmas.List.{length-take-le, take_at}
use Rattle.swim_pack.specs.Reading.{raw_at}
use Rattle.swim_pack.proofs.Composing.{Reads-exit, Reads-then, Reads-seen, Reads-error}
use Rattle.swim_pack.proofs.read.read_whole_key.Goals as goal

pub returns-in_err-len-clause-exact : goal.returns-in_err-len-clause-exact
unfolding raw_at
returns-in_err-len-clause-exact g c =
    let p = err_from_is_err_and c.from_residual.result c.from_residual.ensures.1 in
    rw (p.1, p.2) (Reads-exit _ c.in_err-len.ensures.exact)

pub returns-in_err-fill-clause-exact : goal.returns-in_err-fill-clause-exact
unfolding raw_at
returns-in_err-fill-clause-exact g c =
    let p = err_from_is_err_and c.from_residual-in_err-fill.result c.from_residual-in_err-fill.ensures.1 in
    rw (p.1, p.2)
    (Reads-then _ c.in_ok-len.ensures.exact
    (Reads-error (rw (length-take-le c.in_ok-len.len _ c.in_ok-len.ensures.within) at
    c.in_err-fill.ensures.exact)))

pub returns-clause-exact : goal.returns-clause-exact
unfolding raw_at
returns-clause-exact g c =
    let size = length-take-le c.in_ok-len.len _ c.in_ok-len.ensures.within in
    Reads-then _ c.in_ok-len.ensures.exact
    (Reads-seen _ (take_at c.fill.new.buf _ c.in_ok-len.len (c.fill.auto.buf ∙ size))
    (rw (length-take-le c.in_ok-len.len _ c.in_ok-len.ensures.within) at c.in_ok-fill.ensures.exact))
