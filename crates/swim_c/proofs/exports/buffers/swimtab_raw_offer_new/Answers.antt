use Rattle.std.proofs.Common.{subst, rules}
use Rattle.swim_table.specs.Table.{Entries}
use Rattle.swim_c.specs.NewBytes.{OfferedNew}
use Rattle.swim_c.proofs.NodeCalls.{on_same}
use Rattle.swim_c.proofs.exports.buffers.swimtab_raw_offer_new.Goals as goal

pub returns-clause-tells : goal.returns-clause-tells
returns-clause-tells c =
    on_same c.args.node.now.node c.put.new.self.node _ _ c.deref.result.now.node (search rules) (search rules)
    (subst (λ (t : Entries). OfferedNew c.args.form c.args.user.now t c.args.join c.args.buffer.now
    c.offer_new-status.new.buffer c.offer_new-status.result)
    c.table.ensures.table c.offer_new-status.ensures)
