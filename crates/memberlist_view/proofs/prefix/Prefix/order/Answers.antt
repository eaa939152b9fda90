use Rattle.memberlist_view.proofs.Fronts.{ordered, by_high, by_low}
use Rattle.memberlist_view.proofs.prefix.Prefix.order.Goals as goal

pub returns-then-self-other : goal.returns-then-self-other
returns-then-self-other c =
    let p = c.args.self.now in
    let q = c.args.other.now in
    ordered p q c.cmp.result (by_low p q c.cmp.result c.if-self-other.true c.cmp.ensures)

pub returns-else-self-other : goal.returns-else-self-other
returns-else-self-other c =
    let p = c.args.self.now in
    let q = c.args.other.now in
    ordered p q c.cmp-else-self-other.result (by_high p q c.cmp-else-self-other.result c.cmp-else-self-other.ensures)
