use Rattle.std.proofs.Common.{Err, ap, refl, rules}
use Rattle.std.proofs.lemmas.Result.{err_from_is_err_and}
use Rattle.swim_c.specs.Forms.{wanted}
use Rattle.swim_c.proofs.Faults.{stream_unread, reply_refused}
use Rattle.swim_c.proofs.Halves.{answered, unanswered}
use Rattle.swim_c.proofs.answering.answer.Goals as goal

pub returns-in_err-offered-clause-refused : goal.returns-in_err-offered-clause-refused
returns-in_err-offered-clause-refused g c =
    let p = err_from_is_err_and c.from_residual.result c.from_residual.ensures.1 in
    let why = c.in_err-offered.ensures in
    rw (p.1, p.2)
    (stream_unread (wanted c.args.form c.args.user.now) c.args.stream.now c.new-inlet.result
    c.read_news.new.inlet c.args.held.now.node.table c.in_err-offered.field-0.0
    c.new-inlet.ensures why.lacks why.reason (λ e. why.fault (ap Err e)))

pub returns-in_err-reply-clause-refused : goal.returns-in_err-reply-clause-refused
returns-in_err-reply-clause-refused g c =
    let p = err_from_is_err_and c.from_residual-in_err-reply.result c.from_residual-in_err-reply.ensures.1 in
    let why = c.in_err-reply.ensures in
    rw (p.1, p.2)
    (reply_refused (wanted c.args.form c.args.user.now) c.args.stream.now c.new-inlet.result
    c.read_news.new.inlet c.table-table.result.now c.in_ok-offered.offered
    c.args.held.now.node.table c.table-table.result.now c.in_ok-offered.join c.in_err-reply.field-0.0
    c.new-inlet.ensures c.table-table.ensures.table c.in_ok-offered.ensures.takes (λ e. why.too_many (ap Err e)))

pub returns-clause-answers : goal.returns-clause-answers
returns-clause-answers g c =
    answered (wanted c.args.form c.args.user.now) c.args.stream.now c.new-inlet.result c.read_news.new.inlet
    c.table-table.result.now c.in_ok-offered.offered _ _ c.in_ok-offered.join _ c.len_of-len.result c.args.held.now.node
    c.join_in-news.new.self.node c.new-inlet.ensures (search rules) c.table-table.ensures.table c.in_ok-offered.ensures.takes
    c.table-table.ensures.legal c.len.ensures.legal c.join_in-news.ensures.joined c.join_in-news.ensures.member
    (c.len_of-len.ensures _ c.in_ok-reply.ensures.dump) c.write.ensures

pub returns-clause-news : goal.returns-clause-news
returns-clause-news g c = record { done = λ zero. c.join_in-news.ensures.news; refused = λ other. absurd (other refl) }

pub returns-clause-noted : goal.returns-clause-noted
returns-clause-noted g c = record { done = λ zero. c.join_in-news.ensures.noted; refused = λ other. absurd (other refl) }

pub returns-then-not-has_room-clause-answers : goal.returns-then-not-has_room-clause-answers
returns-then-not-has_room-clause-answers g c =
    unanswered (wanted c.args.form c.args.user.now) c.args.stream.now c.new-inlet.result c.read_news.new.inlet
    c.table-table.result.now c.in_ok-offered.offered _ _ c.in_ok-offered.join _ c.len_of-len.result c.args.held.now.node
    c.new-inlet.ensures (search rules) c.table-table.ensures.table c.in_ok-offered.ensures.takes
    (c.len_of-len.ensures _ c.in_ok-reply.ensures.dump) (search rules, refl)
