use Rattle.std.proofs.Common.{◌≡◌, suc, ◌-◌, sym, ◌∙◌, arith}
use Rattle.capture.proofs.Queued.{cover_none, cover_yes, cover_no}
use Rattle.capture.proofs.piece.covering.Goals as goal

pub returns-then-count-eq0 : goal.returns-then-count-eq0
returns-then-count-eq0 c =
    sym (cover_none c.args.pieces.now c.args.place c.before-count.result c.if-count-eq0.true c.before-count.ensures.high)

pub returns-then-covers : goal.returns-then-covers
returns-then-covers c =
    let is : c.before-count.result ≡ suc (c.before-count.result - 1) = omega (arith, c.if-count-eq0.false) in
    cover_yes c.args.pieces.now c.args.place c.before-count.result (c.before-count.result - 1) c.index-pieces-count.result
    c.requires.in_order c.before-count.ensures.bound is c.index-pieces-count.is c.before-count.ensures.low c.before-count.ensures.high
    (sym c.covers.ensures ∙ c.if-covers.true)

pub returns-else-covers : goal.returns-else-covers
returns-else-covers c =
    let is : c.before-count.result ≡ suc (c.before-count.result - 1) = omega (arith, c.if-count-eq0.false) in
    cover_no c.args.pieces.now c.args.place c.before-count.result (c.before-count.result - 1) c.index-pieces-count.result
    c.requires.in_order c.before-count.ensures.bound is c.index-pieces-count.is c.before-count.ensures.low c.before-count.ensures.high
    (sym c.covers.ensures ∙ c.if-covers.false)
