use Rattle.std.proofs.Common.{◌≡◌, IfNone, Some, None, refl, sym, ap, subst}
use Rattle.swimwatch.specs.Yielded.{HasNoNext}
use Rattle.swimwatch.proofs.Yielding.{absent, lent, no_capture, not_open}
use Rattle.swimwatch.proofs.input.sources.Sources.record.Goals as goal

pub returns-in_err-get-clause-none : goal.returns-in_err-get-clause-none
returns-in_err-get-clause-none c =
    let sources = c.args.self.now in
    let turn = c.in_ok-turn.turn in
    subst (λ o. IfNone o (HasNoNext sources)) (sym c.from_residual-in_err-get.ensures)
    (no_capture sources turn c.in_ok-turn.ensures.first
    (absent sources.all.items c.deref.result.now turn.place c.get.result c.get.ensures.lookup c.in_err-get.was c.deref.ensures.value))

pub returns-in_err-reading-clause-none : goal.returns-in_err-reading-clause-none
returns-in_err-reading-clause-none c =
    let sources = c.args.self.now in
    let turn = c.in_ok-turn.turn in
    let source = c.in_ok-get.field-0 in
    let at = lent sources.all.items c.deref.result.now turn.place c.get.result source c.get.ensures.lookup c.in_ok-get.was c.deref.ensures.value in
    let closed : source.now.reading ≡ None = sym c.in_err-reading.ensures.value in
    subst (λ o. IfNone o (HasNoNext sources)) (sym c.from_residual-in_err-reading.ensures)
    (not_open sources turn source.now c.in_ok-turn.ensures.first at closed)

pub returns-clause-next : goal.returns-clause-next
returns-clause-next c =
    let sources = c.args.self.now in
    let turn = c.in_ok-turn.turn in
    let source = c.in_ok-get.field-0 in
    let at = lent sources.all.items c.deref.result.now turn.place c.get.result source c.get.ensures.lookup c.in_ok-get.was c.deref.ensures.value in
    let has : source.now.reading ≡ Some c.in_ok-reading.reading.now = sym c.in_ok-reading.ensures.value in
    (turn.place, (turn, c.in_ok-turn.ensures.first, refl, c.in_ok-reading.reading.now, (source.now, at, has), ap (λ b. (c.in_ok-reading.reading.now.record, b)) c.deref-2.ensures.value))
