use Rattle.std.proofs.Common.{◌≡◌, suc, ◌-◌, arith}
use Rattle.capture.proofs.Covering.{covers_yes}
use Rattle.capture.proofs.Queued.{clean_first, clean_last, clean_begun, covered_at}
use Rattle.capture.proofs.piece.back.Goals as goal

pub returns-then-place-end-clause-covered : goal.returns-then-place-end-clause-covered
returns-then-place-end-clause-covered c = λ k low high.
    covered_at c.args.pieces.now k (c.before-count.result - 1) c.index-pieces-count.result
    (omega (arith, c.if-count-eq0.false, c.before-count.ensures.bound)) c.index-pieces-count.is
    (covers_yes k c.index-pieces-count.result (omega (arith, low, c.at.ensures))
    (omega (arith, high, c.if-place-end.true, c.end.ensures.is)))

pub returns-then-place-end-clause-clean : goal.returns-then-place-end-clause-clean
returns-then-place-end-clause-clean c =
    rw c.at.ensures (
    clean_begun c.args.pieces.now (c.before-count.result - 1) c.index-pieces-count.result c.requires
    (omega (arith, c.if-count-eq0.false, c.before-count.ensures.bound)) c.index-pieces-count.is)

pub returns-then-count-eq0-clause-clean : goal.returns-then-count-eq0-clause-clean
returns-then-count-eq0-clause-clean c =
    clean_first c.args.pieces.now c.args.place c.before-count.result c.if-count-eq0.true c.before-count.ensures.high

pub returns-else-place-end-clause-clean : goal.returns-else-place-end-clause-clean
returns-else-place-end-clause-clean c =
    let is : c.before-count.result ≡ suc (c.before-count.result - 1) = omega (arith, c.if-count-eq0.false) in
    clean_last c.args.pieces.now c.args.place c.before-count.result (c.before-count.result - 1) c.index-pieces-count.result
    c.requires c.before-count.ensures.bound is c.index-pieces-count.is c.before-count.ensures.high
    (omega (arith, c.if-place-end.false, c.end.ensures.is))
