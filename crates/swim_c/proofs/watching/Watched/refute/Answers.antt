use Rattle.std.proofs.Common.{ap, Ok}
use Rattle.swim_c.proofs.Noting.{due, refuted_noted}
use Rattle.swim_c.proofs.watching.Watched.refute.Goals as goal

pub returns-clause-noted : goal.returns-clause-noted
returns-clause-noted c =
    rw c.note.ensures.node
    (refuted_noted c.args.self.now.changes c.note.new.self.changes c.args.self.now.node c.refute-2.new.self
    c.in_ok-answer.answer c.in_ok-own.own
    c.table.ensures.legal (due c.can_refute.result _ _ c.if-not-can_refute.false c.can_refute.ensures)
    c.in_ok-answer.ensures.refuted (λ none. (c.in_ok-answer.ensures.rest (ap Ok none)).0) c.in_ok-own.ensures.names c.note.ensures.noted)
