use Rattle.std.proofs.Common.{refl}
use Rattle.swim_pack.specs.Spelling.{raw_text}
use Rattle.swim_wire.proofs.InOrder.{map_in_order, next, done, header_shorter}
use Rattle.swim_wire.proofs.Keys.{header_legal}
use Rattle.swim_wire.proofs.in_order.header_in_order.Goals as goal

pub returns-clause-reads : goal.returns-clause-reads
unfolding raw_text
returns-clause-reads c =
    let join = c.in_ok-join.ensures in
    let more = next c.in_ok-nodes.ensures.reads (next c.in_ok-user_state_len.ensures.reads done) in
    (_, join.1, map_in_order header_legal refl (join.0, refl, join.2) more)

pub returns-clause-shorter : goal.returns-clause-shorter
returns-clause-shorter c =
    let found = returns-clause-reads c in
    header_shorter _ _ _ _ found.1 found.2
