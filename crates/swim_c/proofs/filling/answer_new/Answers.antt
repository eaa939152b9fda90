use Rattle.swim_c.specs.Forms.{wanted}
use Rattle.swim_c.specs.NewBytes.{AnsweredNew}
use Rattle.swim_c.proofs.Reported.{reported_in_buffer, reported_news, reported_noted}
use Rattle.swim_c.proofs.filling.answer_new.Goals as goal

pub returns-in-Ok-clause-answers : goal.returns-in-Ok-clause-answers
returns-in-Ok-clause-answers c =
    let form = wanted c.in-Ok.form c.args.user.now in
    let answer = c.answer.ensures in
    AnsweredNew.in_form form c.in-Ok.ensures.ok
    (reported_in_buffer form c.args.stream.now c.args.buffer.now c.answer.new.to c.answer.result c.reported.result
    c.args.held.now c.answer.new.held c.reported.ensures answer.answers answer.unchanged answer.unwritten answer.refused)

pub returns-in-Ok-clause-news : goal.returns-in-Ok-clause-news
returns-in-Ok-clause-news c =
    reported_news c.answer.result c.reported.result c.args.held.now c.answer.new.held c.reported.ensures
    c.answer.ensures.news c.answer.ensures.unchanged

pub returns-in-Ok-clause-noted : goal.returns-in-Ok-clause-noted
returns-in-Ok-clause-noted c =
    reported_noted c.answer.result c.reported.result c.args.held.now c.answer.new.held c.reported.ensures
    c.answer.ensures.noted c.answer.ensures.unchanged
