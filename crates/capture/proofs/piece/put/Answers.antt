use Rattle.std.proofs.Common.{◌+◌, arith, rules}
use Rattle.capture.proofs.Queued.{put_range}
use Rattle.capture.proofs.piece.put.Goals as goal

pub returns : goal.returns
returns c =
    let range =
    put_range c.args.pieces.now.items c.args.piece c.args.from c.args.to (c.args.from + 1) (c.args.to + 1)
    c.requires.order c.requires.inside (omega arith) (omega arith) in
    rw (← range, ← c.in_ok-insert.ensures.items) (search rules)
