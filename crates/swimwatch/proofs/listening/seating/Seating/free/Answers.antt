use Rattle.swimwatch.proofs.Seatings.{none_free, not_yet}
use Rattle.swimwatch.proofs.listening.seating.Seating.free.Goals as goal

pub loop-index-preserved-then-followed-ne0 : goal.loop-index-preserved-then-followed-ne0
loop-index-preserved-then-followed-ne0 c = (
  c.loop-index.invariant.0,
  λ none. not_yet c.args.self.now c.deref-followed-items.result.now c.loop-index.index c.followed-item.result
      c.deref-followed-items.ensures.value c.loop-index-test.true c.followed-item.is c.if-followed-ne0.true (c.loop-index.invariant.1 none),
)

pub returns-clause-none : goal.returns-clause-none
returns-clause-none c =
    none_free c.args.self.now c.deref-followed-items.result.now c.loop-index.index c.loop-index.best
    c.deref-followed-items.ensures.value c.loop-index-test.false c.loop-index.invariant.1
