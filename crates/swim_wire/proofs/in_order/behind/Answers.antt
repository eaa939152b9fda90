use Rattle.std.proofs.Common.{sym, ◌∙◌}
use Rattle.swim_wire.proofs.InOrder.{split_front}
use Rattle.swim_wire.proofs.Keys.{same_key}
use Rattle.swim_wire.proofs.in_order.behind.Goals as goal

pub returns-then-eq : goal.returns-then-eq
returns-then-eq g c =
    let cases = c.in_ok-front.ensures.cases in
    split_front _ _ _ _ _ cases.0 cases.1 (same_key _ _ (sym c.eq.ensures ∙ c.if-eq.true))
