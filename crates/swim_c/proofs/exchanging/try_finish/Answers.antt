use Rattle.std.proofs.Common.{Bool, ap, rules}
use Rattle.swim_table.specs.Table.{Entries}
use Rattle.std.proofs.lemmas.Result.{err_from_is_err_and}
use Rattle.swim_c.proofs.Faults.{refused, unread}
use Rattle.swim_c.proofs.Halves.{replied}
use Rattle.swim_c.proofs.exchanging.try_finish.Goals as goal

pub returns-in_err-replied-clause-refused : goal.returns-in_err-replied-clause-refused
returns-in_err-replied-clause-refused c =
    let p = err_from_is_err_and c.from_residual.result c.from_residual.ensures.1 in
    let why = c.in_err-replied.ensures in
    rw (p.1, p.2)
    (unread c.args.stream.now c.new-inlet.result c.read_news.new.inlet c.in_err-replied.field-0.0 c.new-inlet.ensures why.lacks why.reason
    (λ is. why.fault (ap (refused (Entries × Bool)) is)))

pub returns-clause-finishes : goal.returns-clause-finishes
returns-clause-finishes c =
    replied c.args.stream.now c.new-inlet.result c.read_news.new.inlet c.table.result.now c.in_ok-replied.replied c.in_ok-replied.join _
    c.args.held.now.node c.join.new.self.node c.new-inlet.ensures (search rules) c.table.ensures.table c.in_ok-replied.ensures.takes
    c.join.ensures.legal c.len.ensures.legal c.in_ok-news.ensures.joined c.join.ensures.member
