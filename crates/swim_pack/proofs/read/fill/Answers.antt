use Rattle.std.proofs.Common.{Err, ap, length}
use Rattle.std.proofs.lemmas.Result.{err_from_is_err_and}
use Rattle.swim_pack.proofs.Pulls.{Reads-pulled, Reads-refused}
use Rattle.swim_pack.proofs.read.fill.Goals as goal

pub returns-in_err-pull-clause-exact : goal.returns-in_err-pull-clause-exact
returns-in_err-pull-clause-exact g c =
    let p = err_from_is_err_and c.from_residual.result c.from_residual.ensures.1 in
    let refused = c.in_err-pull.ensures in
    rw (p.1, p.2)
    (Reads-refused (length c.args.buf.now) c.in_err-pull.field-0.0 (λ e. refused.ended (ap Err e)) (λ e. refused.fault (ap Err e))
    refused.refused refused.faults_stay)

pub returns-clause-exact : goal.returns-clause-exact
returns-clause-exact g c =
    Reads-pulled (length c.args.buf.now) c.pull.new.buf c.pull.auto.buf c.in_ok-pull.ensures.ok c.in_ok-pull.ensures.faults_stay
