use Rattle.std.proofs.Common.{[], Err, length, refl, ap, arith}
use Rattle.std.proofs.KnownBytes.{Consumes-nil}
use Rattle.std.proofs.lemmas.Result.{err_from_is_err_and}
use Rattle.capture.proofs.Parts.{part-stopped, part-taken}
use Rattle.capture.proofs.taking.fill.Goals as goal

pub returns-in_err-pull : goal.returns-in_err-pull
returns-in_err-pull g c =
    let p = err_from_is_err_and c.from_residual.result c.from_residual.ensures.1 in
    let refused = c.in_err-pull.ensures in
    let old = g.I.Inlet.seen c.args.inlet.now in
    rw (p.1, p.2)
    (part-stopped old (length c.args.part.now) (length c.args.part.now) [] c.in_err-pull.field-0.0
    (omega arith) (Consumes-nil old.coming) (omega arith)
    (λ e. refused.ended (ap Err e)) (λ e. refused.fault (ap Err e)) refused.refused refused.faults_stay)

pub returns : goal.returns
returns g c = part-taken (length c.args.part.now) c.pull.new.buf c.pull.auto.buf refl c.in_ok-pull.ensures.ok
    c.in_ok-pull.ensures.faults_stay
