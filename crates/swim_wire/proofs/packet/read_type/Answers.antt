use Rattle.std.proofs.Common.{Err, ap}
use Rattle.std.proofs.lemmas.Result.{err_from_is_err_and}
use Rattle.swim_wire.proofs.Lifting.{Wire-ok, Wire-pulled}
use Rattle.swim_pack.proofs.Pulls.{Reads-byte}
use Rattle.swim_wire.proofs.packet.read_type.Goals as goal

pub returns-in_err-pull-clause-exact : goal.returns-in_err-pull-clause-exact
returns-in_err-pull-clause-exact g c =
    let p = err_from_is_err_and c.from_residual.result c.from_residual.ensures.1 in
    let refused = c.in_err-pull.ensures in
    rw (p.1, p.2)
    (Wire-pulled c.in_err-pull.field-0.0 (λ e. refused.ended (ap Err e))
    (λ e. refused.fault (ap Err e)) refused.refused refused.faults_stay)

pub returns-clause-exact : goal.returns-clause-exact
returns-clause-exact g c = Wire-ok (Reads-byte c.pull.new.buf _ c.pull.auto.buf c.in_ok-pull.ensures.ok c.in_ok-pull.ensures.faults_stay)
