use Rattle.std.proofs.Common.{ℕ, refl, sym, ◌∙◌}
use Rattle.std.proofs.lemmas.Result.{err_from_is_err_and}
use Rattle.swim_pack.specs.declared.fault.PackFault.TheVariants.{NotMap, MapCount}
use Rattle.swim_pack.specs.Composing.{same}
use Rattle.swim_pack.specs.Reading.{head_at, count_form, count_at}
use Rattle.swim_pack.proofs.Composing.{Reads-exit, Reads-above, Reads-within}
use Rattle.swim_pack.proofs.Heads.{Reads-head, Reads-no_form}
use Rattle.swim_pack.proofs.read.read_whole_map_len.Goals as goal

pub returns-in_err-first-clause-exact : goal.returns-in_err-first-clause-exact
unfolding count_at
returns-in_err-first-clause-exact g c =
    let p = err_from_is_err_and c.from_residual.result c.from_residual.ensures.1 in
    rw (p.1, p.2) (Reads-exit {X = ℕ} {view = same} _ (Reads-exit _ c.in_err-first.ensures.exact))

pub returns-in_err-form-clause-exact : goal.returns-in_err-form-clause-exact
unfolding count_at
returns-in_err-form-clause-exact g c =
    let p = err_from_is_err_and c.from_residual-in_err-form.result c.from_residual-in_err-form.ensures.1 in
    rw (p.1, p.2)
    (Reads-exit {X = ℕ} {view = same} _
    (Reads-no_form NotMap count_form _ _ _ refl c.count_form.ensures.form c.in_err-form.ensures.ok_part
    c.in_err-form.ensures.value c.in_ok-first.ensures.exact))

pub returns-in_err-count-clause-exact : goal.returns-in_err-count-clause-exact
unfolding count_at
returns-in_err-count-clause-exact g c =
    let p = err_from_is_err_and c.from_residual-in_err-count.result c.from_residual-in_err-count.ensures.1 in
    rw (p.1, p.2)
    (Reads-exit _
    (Reads-head NotMap count_form _ _ (sym c.count_form.ensures.form
    ∙ c.in_ok-form.ensures.ok_part) c.in_ok-first.ensures.exact c.in_err-count.ensures.exact))

pub returns-then-count-from-clause-exact : goal.returns-then-count-from-clause-exact
unfolding count_at
returns-then-count-from-clause-exact g c =
    Reads-above MapCount (head_at NotMap count_form) c.args.max _ refl (rw c.from.ensures at c.if-count-from.true)
    (Reads-head NotMap count_form _ _ (sym c.count_form.ensures.form
    ∙ c.in_ok-form.ensures.ok_part) c.in_ok-first.ensures.exact c.in_ok-count.ensures.exact)

pub returns-clause-exact : goal.returns-clause-exact
unfolding count_at
returns-clause-exact g c =
    Reads-within MapCount (head_at NotMap count_form) c.args.max _ (rw c.from.ensures at c.if-count-from.false)
    (Reads-head NotMap count_form _ _ (sym c.count_form.ensures.form
    ∙ c.in_ok-form.ensures.ok_part) c.in_ok-first.ensures.exact c.in_ok-count.ensures.exact)
