use Rattle.std.proofs.Common.{◌≡◌, false, rules}
use Rattle.swim_c.specs.Taking.{TakeDone}
use Rattle.swim_c.specs.Watching.{TellsNews}
use Rattle.swim_c.proofs.NodeCalls.{on_node, on_noted}
use Rattle.swim_c.proofs.exports.packets.swimtab_raw_take.Goals as goal

pub returns-clause-takes : goal.returns-clause-takes
returns-clause-takes c =
    let r = c.hear-heard.result in
    on_node c.args.node.now.node c.put.new.self.node (r ≡ record { status = 64; news = false }) (TakeDone c.args.bytes.now r.status)
    c.deref_mut.result.now.node c.hear-heard.new.held.node (search rules) (search rules) c.hear-heard.ensures.takes

pub returns-clause-news : goal.returns-clause-news
returns-clause-news c =
    let r = c.hear-heard.result in
    on_node c.args.node.now.node c.put.new.self.node (r.news ≡ false) (TellsNews r.status r.news)
    c.deref_mut.result.now.node c.hear-heard.new.held.node (search rules) (search rules) c.hear-heard.ensures.news

pub returns-clause-noted : goal.returns-clause-noted
returns-clause-noted c =
    on_noted c.args.node.now.node c.put.new.self.node c.args.node.now.changes c.put.new.self.changes
    c.deref_mut.result.now.changes c.hear-heard.new.held.changes c.hear-heard.result.status
    c.deref_mut.result.now.node c.hear-heard.new.held.node (search rules) (search rules) (search rules)
    (search rules) c.hear-heard.ensures.noted
