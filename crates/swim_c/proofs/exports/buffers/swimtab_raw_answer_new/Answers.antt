use Rattle.std.proofs.Common.{◌≡◌, false, rules}
use Rattle.swim_c.specs.NewBytes.{AnsweredNew}
use Rattle.swim_c.specs.Watching.{TellsNews}
use Rattle.swim_c.proofs.NodeCalls.{on_node, on_noted}
use Rattle.swim_c.proofs.exports.buffers.swimtab_raw_answer_new.Goals as goal

pub returns-clause-answers : goal.returns-clause-answers
returns-clause-answers c =
    let r = c.answer_new-exchanged.result in let buffer = c.answer_new-exchanged.new.buffer in
    on_node c.args.node.now.node c.put.new.self.node
    ((r ≡ record { status = 64; join = false; news = false; used = 0; len = 0 }) × (buffer ≡ c.args.buffer.now))
    (AnsweredNew c.args.form c.args.user.now c.args.stream.now c.args.buffer.now buffer r.status r.join r.used r.len)
    c.deref_mut.result.now.node c.answer_new-exchanged.new.held.node (search rules) (search rules) c.answer_new-exchanged.ensures.answers

pub returns-clause-news : goal.returns-clause-news
returns-clause-news c =
    let r = c.answer_new-exchanged.result in
    on_node c.args.node.now.node c.put.new.self.node (r.news ≡ false) (TellsNews r.status r.news)
    c.deref_mut.result.now.node c.answer_new-exchanged.new.held.node (search rules) (search rules) c.answer_new-exchanged.ensures.news

pub returns-clause-noted : goal.returns-clause-noted
returns-clause-noted c =
    on_noted c.args.node.now.node c.put.new.self.node c.args.node.now.changes c.put.new.self.changes
    c.deref_mut.result.now.changes c.answer_new-exchanged.new.held.changes c.answer_new-exchanged.result.status
    c.deref_mut.result.now.node c.answer_new-exchanged.new.held.node (search rules) (search rules) (search rules) (search rules)
    c.answer_new-exchanged.ensures.noted
