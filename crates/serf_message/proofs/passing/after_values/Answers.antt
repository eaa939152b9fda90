use Rattle.std.proofs.Common.{◌≡◌, ◌+◌, ◌-◌, suc, length, refl, sym, ◌∙◌, arith}
use Rattle.std.proofs.lemmas.Result.{err_from_is_err_and}
use Rattle.serf_message.specs.Reading.{values_at}
use Rattle.serf_message.proofs.Passed.{none_left, too_many, no_steps, one_value, bad_value}
use Rattle.serf_message.proofs.passing.after_values.Goals as goal

pub returns-in_err-pending : goal.returns-in_err-pending
unfolding values_at
returns-in_err-pending c =
    let p = err_from_is_err_and c.from_residual.result c.from_residual.ensures.1 in
    let many = c.in_err-pending.ensures in
    rw (p.1, p.2, many.0) (too_many _ _ _ (omega (arith, many.1, c.from.ensures)))

pub loop-init : goal.loop-init
unfolding values_at
loop-init c =
    let few = c.in_ok-pending.ensures in
    let steps : length c.args.bytes.now - 0 ≡ length c.args.bytes.now = omega arith in
    let same : c.in_ok-pending.pending ≡ c.args.count = omega (arith, few.0, c.from.ensures) in
    record { same = rw (steps, same) refl; few = few.1 }

pub returns-then-pending-eq0 : goal.returns-then-pending-eq0
returns-then-pending-eq0 c =
    sym c.loop.invariant.same ∙ none_left _ _ _ c.if-pending-eq0.true

pub returns-in_err-more : goal.returns-in_err-more
returns-in_err-more c =
    let p = err_from_is_err_and c.from_residual-in_err-more.result c.from_residual-in_err-more.ensures.1 in
    let s : length c.args.bytes.now - c.loop.counter ≡ suc (length c.args.bytes.now - c.loop.counter - 1) = omega arith in
    let e : c.loop.pending ≡ suc (c.loop.pending - 1) = omega arith in
    rw (p.1, p.2) (sym c.loop.invariant.same ∙ bad_value _ _ _ _ _ _ s e c.loop.invariant.few c.in_err-more.ensures)

pub returns-in_err-pending-2 : goal.returns-in_err-pending-2
returns-in_err-pending-2 c =
    let p = err_from_is_err_and c.from_residual-in_err-pending-2.result c.from_residual-in_err-pending-2.ensures.1 in
    let s : length c.args.bytes.now - c.loop.counter ≡ suc (length c.args.bytes.now - c.loop.counter - 1) = omega arith in
    let e : c.loop.pending ≡ suc (c.loop.pending - 1) = omega arith in
    let many = c.in_err-pending-2.ensures in
    rw (p.1, p.2, many.0)
    (sym c.loop.invariant.same ∙ one_value _ _ _ _ _ _ _ s e c.loop.invariant.few c.in_ok-more.ensures
    ∙ too_many _ _ _ (omega (arith, many.1)))

pub loop-preserved : goal.loop-preserved
loop-preserved c =
    let s : length c.args.bytes.now - c.loop.counter ≡ suc (length c.args.bytes.now - (c.loop.counter + 1)) = omega arith in
    let e : c.loop.pending ≡ suc (c.loop.pending - 1) = omega arith in
    let few = c.in_ok-pending-2.ensures in
    record {
      same = rw few.0 (sym (one_value _ _ _ _ _ _ _ s e c.loop.invariant.few c.in_ok-more.ensures) ∙ c.loop.invariant.same);
      few = few.1;
    }

pub returns-then-pending-eq0-2 : goal.returns-then-pending-eq0-2
returns-then-pending-eq0-2 c =
    sym c.loop.invariant.same ∙ none_left _ _ _ c.if-pending-eq0-2.true

pub returns-else-pending-eq0-2 : goal.returns-else-pending-eq0-2
returns-else-pending-eq0-2 c =
    sym c.loop.invariant.same ∙ no_steps _ _ _ (omega arith) (omega arith)
