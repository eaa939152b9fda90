use Rattle.std.proofs.Common.{◌≡◌, ◌≤◌, ◌++◌, length, length-append, arith, rules}
use Rattle.std.proofs.KnownBytes.{Consumes-trans}
use Rattle.std.proofs.lemmas.Result.{err_from_is_err_and}
use Rattle.capture.proofs.Parts.{part-stopped, part-memory}
use Rattle.capture.proofs.taking.read_part.Goals as goal

pub returns-in_err-pull : goal.returns-in_err-pull
returns-in_err-pull g c =
    let p = err_from_is_err_and c.from_residual.result c.from_residual.ensures.1 in
    let inv = c.loop-left.invariant in
    let le : c.min-size.result ≤ c.loop-left.left = search rules in
    rw (p.1, p.2)
    (part-stopped (g.I.Inlet.seen c.loop-left.inlet) c.args.len c.min-size.result c.loop-left.bytes.items c.in_err-pull.field-0.0
    (omega arith) inv.taken inv.faults (λ ended. search rules)
    (λ failed. search rules) c.in_err-pull.ensures.refused c.in_err-pull.ensures.faults_stay)

pub returns-in_err-extend_from_slice : goal.returns-in_err-extend_from_slice
returns-in_err-extend_from_slice g c =
    let p = err_from_is_err_and c.from_residual-in_err-extend_from_slice.result c.from_residual-in_err-extend_from_slice.ensures.1 in
    let inv = c.loop-left.invariant in
    let long : length c.pull.new.buf ≡ c.min-size.result = search rules in
    let le : c.min-size.result ≤ c.loop-left.left = search rules in
    let lengths = length-append c.loop-left.bytes.items c.pull.new.buf in
    rw (p.1, p.2)
    (part-memory c.args.len (c.loop-left.bytes.items ++ c.pull.new.buf) (omega arith)
    (Consumes-trans _ _ _ c.loop-left.bytes.items c.pull.new.buf inv.taken c.in_ok-pull.ensures.ok)
    (let before = inv.faults in let after = c.in_ok-pull.ensures.faults_stay in omega arith))
