use Rattle.std.proofs.Common.{◌≡◌, false, rules}
use Rattle.swim_c.specs.Exchanges.{FinishDone}
use Rattle.swim_c.specs.Watching.{TellsNews}
use Rattle.swim_c.proofs.NodeCalls.{on_node, on_noted}
use Rattle.swim_c.proofs.exports.streams.swimtab_raw_finish.Goals as goal

pub returns-clause-finishes : goal.returns-clause-finishes
returns-clause-finishes c =
    let r = c.finish_stream-exchanged.result in
    on_node c.args.node.now.node c.put.new.self.node
    (r ≡ record { status = 64; join = false; news = false; used = 0; len = 0 })
    (FinishDone c.args.stream.now r.status r.join r.used r.len)
    c.deref_mut.result.now.node c.finish_stream-exchanged.new.held.node (search rules)
    (search rules) c.finish_stream-exchanged.ensures.finishes

pub returns-clause-news : goal.returns-clause-news
returns-clause-news c =
    let r = c.finish_stream-exchanged.result in
    on_node c.args.node.now.node c.put.new.self.node (r.news ≡ false) (TellsNews r.status r.news)
    c.deref_mut.result.now.node c.finish_stream-exchanged.new.held.node (search rules) (search rules) c.finish_stream-exchanged.ensures.news

pub returns-clause-noted : goal.returns-clause-noted
returns-clause-noted c =
    on_noted c.args.node.now.node c.put.new.self.node c.args.node.now.changes c.put.new.self.changes
    c.deref_mut.result.now.changes c.finish_stream-exchanged.new.held.changes c.finish_stream-exchanged.result.status
    c.deref_mut.result.now.node c.finish_stream-exchanged.new.held.node (search rules) (search rules) (search rules) (search rules)
    c.finish_stream-exchanged.ensures.noted
