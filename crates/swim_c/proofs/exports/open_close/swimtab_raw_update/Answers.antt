use Rattle.std.proofs.Common.{◌≡◌, false, rules}
use Rattle.swim_c.specs.Opening.{told}
use Rattle.swim_c.specs.Updating.{UpdateDone}
use Rattle.swim_c.proofs.NodeCalls.{on_node}
use Rattle.swim_c.proofs.exports.open_close.swimtab_raw_update.Goals as goal

pub returns-clause-updates : goal.returns-clause-updates
returns-clause-updates c =
    let r = c.update-updated.result in
    on_node c.args.node.now.node c.put.new.self.node (r ≡ record { status = 64; due = false; inc = 0 })
    (UpdateDone (told c.args.addr.now c.args.port c.args.meta.now c.args.vsn.now) r.status r.due r.inc)
    c.deref_mut.result.now.node c.update-updated.new.held.node (search rules) (search rules) c.update-updated.ensures.updates
