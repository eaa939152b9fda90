use Rattle.std.proofs.Common.{◌≡◌, None, length, nat_eq, subst, rules}
use Rattle.std.proofs.lemmas.Result.{err_from_is_err_and}
use Rattle.swim_script.specs.Refusals.{RefusesWords}
use Rattle.swim_script.specs.Script.{words}
use Rattle.swim_script.proofs.script.Plan.take_line.Goals as goal

pub returns-in_err-read_line-clause-tells : goal.returns-in_err-read_line-clause-tells
returns-in_err-read_line-clause-tells c =
    let p = err_from_is_err_and c.from_residual.result c.from_residual.ensures.1 in
    let open_still : c.args.self.now.level ≡ None = search rules in
    let may : c.is_empty-nodes_may_come.result ≡ nat_eq (length c.args.self.now.events.items) 0 = search rules in
    rw (p.1, p.2)
    (λ seen. (
      λ ended. absurd (ended open_still),
      λ none. subst (λ b. RefusesWords b (words c.args.line.now) c.in_err-read_line.field-0.0) may (c.in_err-read_line.ensures.tells seen),
    ))
