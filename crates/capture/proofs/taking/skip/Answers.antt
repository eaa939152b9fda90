use Rattle.std.proofs.Common.{◌≡◌, ◌≤◌, ◌+◌, ◌-◌, ◌++◌, ℕ, List, length, length-append, refl, arith, rules}
use Rattle.std.proofs.KnownBytes.{Consumes-trans}
use Rattle.std.proofs.lemmas.Result.{err_from_is_err_and}
use Rattle.swim_pack.specs.Composing.{same}
use Rattle.swim_pack.proofs.Composing.{Reads-exit, Reads-then, Reads-gives}
use Rattle.capture.specs.Taking.{skipped}
use Rattle.capture.proofs.Parts.{part-stopped, part-taken}
use Rattle.capture.proofs.taking.skip.Goals as goal

pub returns-in_err-pull : goal.returns-in_err-pull
unfolding skipped
returns-in_err-pull g c =
    let p = err_from_is_err_and c.from_residual.result c.from_residual.ensures.1 in
    let inv = c.loop-left.invariant in
    let gone = inv.dropped in
    let sum = gone.2 in
    let le : c.min-size.result ≤ c.loop-left.left = search rules in
    rw (p.1, p.2)
    (Reads-exit _
    (part-stopped {X = List ℕ} {view = same} (g.I.Inlet.seen c.loop-left.inlet) c.args.len c.min-size.result gone.0 c.in_err-pull.field-0.0
    (omega arith) gone.1 inv.faults (λ ended. search rules)
    (λ failed. search rules) c.in_err-pull.ensures.refused c.in_err-pull.ensures.faults_stay))

pub loop-left-preserved : goal.loop-left-preserved
loop-left-preserved g c =
    let gone = c.loop-left.invariant.dropped in
    let long : length c.pull.new.buf ≡ c.min-size.result = search rules in
    let le : c.min-size.result ≤ c.loop-left.left = search rules in
    let sum = gone.2 in
    let lengths = length-append gone.0 c.pull.new.buf in
    let rest : length (gone.0 ++ c.pull.new.buf) +
    (c.loop-left.left - c.min-size.result) ≡ c.args.len = omega (arith, long, le, sum, lengths) in
    record {
      dropped = (gone.0 ++ c.pull.new.buf, Consumes-trans _ _ _ gone.0 c.pull.new.buf gone.1 c.in_ok-pull.ensures.ok, rest);
      faults = let before = c.loop-left.invariant.faults in let after = c.in_ok-pull.ensures.faults_stay in omega arith;
    }

pub returns : goal.returns
unfolding skipped
returns g c =
    let inv = c.loop-left.invariant in
    let gone = inv.dropped in
    let sum = gone.2 in
    Reads-then _ (part-taken {X = List ℕ} {view = same} {x = gone.0} c.args.len gone.0 (omega arith) refl gone.1 inv.faults)
    (Reads-gives {view = λ _. tt} _)
