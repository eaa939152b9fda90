use Rattle.std.proofs.Common.{refl}
use Rattle.swim_pack.specs.Spelling.{raw_text}
use Rattle.swim_wire.proofs.InOrder.{map_in_order, next, done}
use Rattle.swim_wire.proofs.Keys.{accusation_legal}
use Rattle.swim_wire.proofs.in_order.accusation_in_order.Goals as goal

pub returns-clause-reads : goal.returns-clause-reads
unfolding raw_text
returns-clause-reads c =
    map_in_order accusation_legal refl c.in_ok-from.ensures.reads
    (next c.in_ok-incarnation.ensures.reads (next c.in_ok-node.ensures.reads done))
