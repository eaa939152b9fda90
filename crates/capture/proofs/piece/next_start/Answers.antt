use Rattle.capture.proofs.Covering.{stop_above, stop_le}
use Rattle.capture.proofs.piece.next_start.Goals as goal

pub returns-clause-above : goal.returns-clause-above
returns-clause-above c = rw c.nearest.ensures (stop_above c.args.place c.args.pieces.now c.args.end c.requires.below)

pub returns-clause-within : goal.returns-clause-within
returns-clause-within c = rw c.nearest.ensures (stop_le c.args.place c.args.pieces.now c.args.end)
