use Rattle.std.proofs.Common.{◌≡◌, rules}
use Rattle.swim_c.specs.Updating.{ReadmitDone}
use Rattle.swim_c.proofs.NodeCalls.{on_node}
use Rattle.swim_c.proofs.exports.forgetting.swimtab_raw_readmit.Goals as goal

pub returns-clause-readmits : goal.returns-clause-readmits
returns-clause-readmits c =
    on_node c.args.node.now.node c.put.new.self.node (c.readmit-status.result ≡ 64) (ReadmitDone c.args.name.now c.readmit-status.result)
    c.deref_mut.result.now.node c.readmit-status.new.held.node (search rules) (search rules) c.readmit-status.ensures.readmits
