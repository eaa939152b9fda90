use Rattle.std.proofs.Common.{arith}
use Rattle.swim_table.proofs.Refuting.{disputed_known, refuted}
use Rattle.swim_table.proofs.node.Node.refute.Goals as goal

pub unreachable-requires : goal.unreachable-requires
unreachable-requires c =
    let entry = disputed_known c.args.self.now _ c.word.ensures.legal c.in-Disputed.ensures.word in
    let entry' = rw (← c.self.view_is) at entry in
    let ok = c.take.ensures.known (rw c.in_ok-refutation.ensures entry') in
    let refused = rw c.in-Err.is at ok in
    absurd (grind arith)

pub returns-clause-refuted : goal.returns-clause-refuted
returns-clause-refuted c =
    let due = rw (← c.self.view_is) at c.in-Disputed.ensures.word in
    rw (← c.self.view_is)
    (refuted _ _ c.in-Disputed.inc c.in-Some.next c.in_ok-refutation.refutation due c.in-Some.ensures.1
    c.in_ok-refutation.ensures c.in-Ok.ensures.ok c.in-Ok.ensures.all)
