use Rattle.std.proofs.Common.{rules}
use Rattle.swim_c.specs.Exchanges.{AnsweredInForm}
use Rattle.swim_c.specs.Forms.{wanted}
use Rattle.swim_c.proofs.Reported.{reported_in_memory, reported_news, reported_noted}
use Rattle.swim_c.proofs.exchanging.answer_in_form.Goals as goal

pub returns-in-Ok-clause-answers : goal.returns-in-Ok-clause-answers
returns-in-Ok-clause-answers c =
    let form = wanted c.in-Ok.form c.args.user.now in
    let answer = c.answer.ensures in
    AnsweredInForm.in_form form c.in-Ok.ensures.ok
    (reported_in_memory form c.args.stream.now _ _ c.new-to.result c.answer.new.to c.answer.result c.reported.result
    c.args.held.now c.answer.new.held c.reported.ensures answer.answers answer.unchanged answer.unwritten answer.refused
    c.new-to.ensures.same (search rules))

pub returns-in-Ok-clause-news : goal.returns-in-Ok-clause-news
returns-in-Ok-clause-news c =
    reported_news c.answer.result c.reported.result c.args.held.now c.answer.new.held c.reported.ensures
    c.answer.ensures.news c.answer.ensures.unchanged

pub returns-in-Ok-clause-noted : goal.returns-in-Ok-clause-noted
returns-in-Ok-clause-noted c =
    reported_noted c.answer.result c.reported.result c.args.held.now c.answer.new.held c.reported.ensures
    c.answer.ensures.noted c.answer.ensures.unchanged
