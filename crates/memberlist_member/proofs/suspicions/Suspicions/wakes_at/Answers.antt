-- One more suspect was looked at.
use Rattle.std.proofs.Common.{◌+◌, sym, subst}
use Rattle.memberlist_member.proofs.Waking.{IsFirstAt, first_more}
use Rattle.memberlist_member.proofs.suspicions.Suspicions.wakes_at.Goals as goal

pub loop-suspect-preserved : goal.loop-suspect-preserved
loop-suspect-preserved c =
    subst (IsFirstAt c.args.view.now c.deref-suspect-items.result.now (c.loop-suspect.suspect-index + 1)) (sym c.earlier.ensures)
    (first_more c.args.view.now c.deref-suspect-items.result.now c.loop-suspect.suspect-index c.loop-suspect.first c.suspect-item.result
    c.due_of.result c.loop-suspect.invariant c.loop-suspect-test.true c.suspect-item.is c.due_of.ensures)
