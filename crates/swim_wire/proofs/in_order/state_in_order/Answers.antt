use Rattle.std.proofs.Common.{refl}
use Rattle.swim_pack.specs.Spelling.{raw_text}
use Rattle.swim_wire.proofs.InOrder.{map_in_order, next, done, state_shorter}
use Rattle.swim_wire.proofs.Keys.{state_legal}
use Rattle.swim_wire.proofs.in_order.state_in_order.Goals as goal

pub returns-clause-reads : goal.returns-clause-reads
unfolding raw_text
returns-clause-reads c =
    map_in_order state_legal refl c.in_ok-addr.ensures.reads (next c.in_ok-incarnation.ensures.reads (next c.in_ok-meta.ensures.reads
    (next c.in_ok-name.ensures.reads (next c.in_ok-port.ensures.reads
    (next c.in_ok-state.ensures.reads (next c.in_ok-vsn.ensures.reads done))))))

pub returns-clause-shorter : goal.returns-clause-shorter
returns-clause-shorter c = state_shorter _ _ _ (returns-clause-reads c)
