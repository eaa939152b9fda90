use Rattle.std.proofs.lemmas.Result.{err_from_is_err_and}
use Rattle.swimtab.proofs.FewRecords.{fits_few}
use Rattle.swimtab.proofs.looped.exchange_between.Goals as goal

pub returns-in_err-offer-clause-few : goal.returns-in_err-offer-clause-few
returns-in_err-offer-clause-few g c =
    let p = err_from_is_err_and c.from_residual.result c.from_residual.ensures.1 in
    rw (p.1, p.2) (λ e. let why = rw e at c.in_err-offer.ensures.refused in fits_few c.args.first.now c.requires.first why.0)

pub returns-in_err-answer-clause-few : goal.returns-in_err-answer-clause-few
returns-in_err-answer-clause-few g c =
    let p = err_from_is_err_and c.from_residual-in_err-answer.result c.from_residual-in_err-answer.ensures.1 in
    rw (p.1, p.2) (λ e. let why = rw e at c.in_err-answer.ensures.refused in fits_few c.args.second.now c.requires.second why.0)

pub returns-in_err-finish-clause-few : goal.returns-in_err-finish-clause-few
returns-in_err-finish-clause-few g c =
    let p = err_from_is_err_and c.from_residual-in_err-finish.result c.from_residual-in_err-finish.ensures.1 in
    rw (p.1, p.2) (λ e. rw e at c.in_err-finish.ensures.refused)
