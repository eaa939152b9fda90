use Rattle.std.proofs.Common.{sym, ◌∙◌, refl}
use Rattle.capture.proofs.Hearing.{goes_aside, goes_replaced, goes_on}
use Rattle.capture.proofs.pair.Pair.take.Goals as goal

pub returns-then-is_aside-clause-goes : goal.returns-then-is_aside-clause-goes
returns-then-is_aside-clause-goes c =
    goes_aside _ _ _ _ _ _ c.in_ok-taken.ensures.older refl (sym c.is_aside.ensures ∙ c.if-is_aside.true)
    c.in_ok-taken.ensures.there c.in_ok-taken.ensures.aside

pub returns-then-is_confirmed-clause-goes : goal.returns-then-is_confirmed-clause-goes
returns-then-is_confirmed-clause-goes c =
    goes_replaced _ _ _ _ _ _ _ refl (sym c.is_aside.ensures ∙ c.if-is_aside.false) (sym c.is_confirmed.ensures ∙ c.if-is_confirmed.true)
    c.in_ok-taken-2.ensures.takes c.in_ok-taken-2.ensures.alone c.in_ok-taken-2.ensures.replaced

pub returns-clause-goes : goal.returns-clause-goes
returns-clause-goes c =
    let own = rw (← c.self.view_is) at (sym c.is_aside.ensures ∙ c.if-is_aside.false) in
    let unconfirmed = rw (← c.self.view_is) at (sym c.is_confirmed.ensures ∙ c.if-is_confirmed.false) in
    rw (← c.self.view_is) (goes_on _ _ _ _ _ own unconfirmed c.in_ok-taken-3.ensures.takes refl)
