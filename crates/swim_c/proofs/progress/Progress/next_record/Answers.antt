use Rattle.std.proofs.Common.{sym, subst}
use Rattle.std.proofs.lemmas.Result.{err_from_is_err_and}
use Rattle.swim_c.specs.declared.progress.Progress.{Progress}
use Rattle.swim_c.specs.Progressing.{IsProgressIn, StopsAt}
use Rattle.swim_c.proofs.progress.Progress.next_record.Goals as goal

pub returns-in_err-begin-clause-progress : goal.returns-in_err-begin-clause-progress
returns-in_err-begin-clause-progress c = λ at. subst (IsProgressIn c.args.bytes.now) (sym c.in_err-begin.ensures.unchanged) at

pub returns-in-Ok-clause-progress : goal.returns-in-Ok-clause-progress
returns-in-Ok-clause-progress c = λ at. c.in-Ok.ensures.progress (c.in_ok-begin.ensures.progress at)

pub returns-in-Err-clause-progress : goal.returns-in-Err-clause-progress
returns-in-Err-clause-progress c = λ at. subst (IsProgressIn c.args.bytes.now)
    (sym c.in-Err.ensures.unchanged) (c.in_ok-begin.ensures.progress at)

pub returns-in_err-begin-clause-stops : goal.returns-in_err-begin-clause-stops
returns-in_err-begin-clause-stops c =
    let p = err_from_is_err_and c.from_residual.result c.from_residual.ensures.1 in
    rw (p.1, p.2)
    (subst (λ (q : Progress). StopsAt q c.in_err-begin.field-0.0 c.args.bytes.now)
    (sym c.in_err-begin.ensures.unchanged) c.in_err-begin.ensures.stops)

pub returns-in-Ok-clause-read : goal.returns-in-Ok-clause-read
returns-in-Ok-clause-read c = (c.begin.new.self, c.in_ok-begin.ensures.begun, c.in-Ok.ensures.takes)

pub returns-in-Err-clause-stops : goal.returns-in-Err-clause-stops
returns-in-Err-clause-stops c = subst (λ (q : Progress). StopsAt q c.in-Err.fault c.args.bytes.now)
    (sym c.in-Err.ensures.unchanged) c.in-Err.ensures.stops
