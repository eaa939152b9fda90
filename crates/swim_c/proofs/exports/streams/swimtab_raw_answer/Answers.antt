use Rattle.std.proofs.Common.{◌≡◌, false, rules}
use Rattle.swim_c.specs.Exchanges.{AnsweredInForm}
use Rattle.swim_c.specs.Watching.{TellsNews}
use Rattle.swim_c.proofs.NodeCalls.{on_node, on_noted}
use Rattle.swim_c.proofs.exports.streams.swimtab_raw_answer.Goals as goal

pub returns-clause-answers : goal.returns-clause-answers
returns-clause-answers c =
    let r = c.answer_in_form-exchanged.result in let out = c.answer_in_form-exchanged.new.out in
    on_node c.args.node.now.node c.put.new.self.node
    ((r ≡ record { status = 64; join = false; news = false; used = 0; len = 0 }) × (out ≡ c.args.out.now))
    (AnsweredInForm c.args.form c.args.user.now c.args.stream.now c.args.out.now out r.status r.join r.used r.len)
    c.deref_mut.result.now.node c.answer_in_form-exchanged.new.held.node (search rules)
    (search rules) c.answer_in_form-exchanged.ensures.answers

pub returns-clause-news : goal.returns-clause-news
returns-clause-news c =
    let r = c.answer_in_form-exchanged.result in
    on_node c.args.node.now.node c.put.new.self.node (r.news ≡ false) (TellsNews r.status r.news)
    c.deref_mut.result.now.node c.answer_in_form-exchanged.new.held.node (search rules)
    (search rules) c.answer_in_form-exchanged.ensures.news

pub returns-clause-noted : goal.returns-clause-noted
returns-clause-noted c =
    on_noted c.args.node.now.node c.put.new.self.node c.args.node.now.changes c.put.new.self.changes
    c.deref_mut.result.now.changes c.answer_in_form-exchanged.new.held.changes c.answer_in_form-exchanged.result.status
    c.deref_mut.result.now.node c.answer_in_form-exchanged.new.held.node (search rules) (search rules) (search rules) (search rules)
    c.answer_in_form-exchanged.ensures.noted
