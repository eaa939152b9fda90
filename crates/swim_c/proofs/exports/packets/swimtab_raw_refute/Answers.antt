use Rattle.std.proofs.Common.{◌≡◌, false, rules}
use Rattle.swim_c.specs.Taking.{RefuteDone}
use Rattle.swim_c.proofs.NodeCalls.{on_node, on_noted}
use Rattle.swim_c.proofs.exports.packets.swimtab_raw_refute.Goals as goal

pub returns-clause-refutes : goal.returns-clause-refutes
returns-clause-refutes c =
    let r = c.refute-refuted.result in
    on_node c.args.node.now.node c.put.new.self.node (r ≡ record { status = 64; due = false; inc = 0 })
    (RefuteDone r.status r.due r.inc) c.deref_mut.result.now.node c.refute-refuted.new.held.node (search rules) (search rules)
    c.refute-refuted.ensures.refutes

pub returns-clause-noted : goal.returns-clause-noted
returns-clause-noted c =
    on_noted c.args.node.now.node c.put.new.self.node c.args.node.now.changes c.put.new.self.changes
    c.deref_mut.result.now.changes c.refute-refuted.new.held.changes c.refute-refuted.result.status
    c.deref_mut.result.now.node c.refute-refuted.new.held.node (search rules) (search rules) (search rules)
    (search rules) c.refute-refuted.ensures.noted
