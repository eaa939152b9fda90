use Rattle.std.proofs.Common.{◌≡◌, min, ◌∙◌, arith}
use Rattle.capture.proofs.Queued.{near_next, near_last}
use Rattle.capture.proofs.piece.nearest.Goals as goal

pub returns-then-count-pieces : goal.returns-then-count-pieces
returns-then-count-pieces c =
    let least : c.min.result ≡ min c.index-pieces-count.result.at c.args.end = omega (arith, c.min.ensures, c.at.ensures) in
    least
    ∙ near_next c.args.pieces.now c.args.place c.before-count.result c.args.end c.index-pieces-count.result c.requires.in_order
    (omega (arith, c.if-count-pieces.true)) c.index-pieces-count.is c.before-count.ensures.low c.before-count.ensures.high

pub returns-else-count-pieces : goal.returns-else-count-pieces
returns-else-count-pieces c =
    near_last c.args.pieces.now c.args.place c.before-count.result c.args.end c.if-count-pieces.false c.before-count.ensures.low
