use Rattle.std.proofs.Common.{rules}
use Rattle.swim_c.proofs.NodeCalls.{on_same}
use Rattle.swim_c.proofs.exports.packets.swimtab_raw_alive.Goals as goal

pub returns-clause-tells : goal.returns-clause-tells
returns-clause-tells c = on_same c.args.node.now.node c.put.new.self.node _ _ c.deref.result.now.node
    (search rules) (search rules) c.say_alive-written.ensures
