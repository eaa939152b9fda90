use Rattle.std.proofs.Common.{◌≡◌, length, sym, ap, subst, arith, ◌∙◌}
use Rattle.swimwatch.specs.Yielded.{HasAlso, turn_at}
use Rattle.swimwatch.proofs.Flowing.{on_ok}
use Rattle.swimwatch.proofs.Waiting.{added, of_ok}
use Rattle.swimwatch.proofs.input.sources.Sources.add.Goals as goal

pub returns : goal.returns
returns c all =
    let old = c.args.self.now in
    let new = c.wait.new.self in
    let time = c.time_of-time.result in
    let place : c.len-place.result ≡ length old.all.items = omega (arith, c.len-place.ensures, old.all.ok.0) in
    let made = ap (λ v. v.items) c.wait.ensures.all ∙ of_ok c.push.result _ _ _ (sym c.is_err.ensures.value ∙ c.if-is_err.false) c.push.ensures.items in
    on_ok c.wait.result
    (λ also. added old new _ time
    (subst (λ n. HasAlso (turn_at time n) old.turns.waiting.keys new.turns.waiting.keys) place also) made all)
    c.wait.ensures.waits
