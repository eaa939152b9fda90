use Rattle.std.proofs.Common.{◌∙◌, Err, ap}
use Rattle.std.proofs.lemmas.Result.{err_from_is_err_and}
use Rattle.swim_sync.proofs.Exchanging.{joined_in, push_refused, prepared}
use Rattle.swim_sync.proofs.push_pull.answer.Goals as goal

pub returns-clause-takes : goal.returns-clause-takes
returns-clause-takes g c =
    joined_in (g.I.Inlet.seen c.args.inlet.now) (g.I.Inlet.seen c.prepare_answer.new.inlet) c.args.table.now
    c.in_ok-join.field-0.offered c.join_in.new.self c.in_ok-join.field-0.join c.in_ok-join.ensures.reads c.join_in.ensures.join
    c.join_in.ensures.all

pub returns-in_err-join-clause-refused : goal.returns-in_err-join-clause-refused
returns-in_err-join-clause-refused g c =
    let p = err_from_is_err_and c.from_residual.result c.from_residual.ensures.1 in
    rw (p.1, p.2)
    (prepared (g.I.Inlet.seen c.args.inlet.now) (g.I.Inlet.seen c.prepare_answer.new.inlet) (g.O.Outlet.seen c.args.outlet.now)
    c.args.table.now c.in_err-join.field-0.0 c.in_err-join.ensures.refused)

pub returns-in_err-push-clause-refused : goal.returns-in_err-push-clause-refused
returns-in_err-push-clause-refused g c =
    let p = err_from_is_err_and c.from_residual-in_err-push.result c.from_residual-in_err-push.ensures.1 in
    let refused = c.in_err-push.ensures in
    rw (p.1, p.2)
    (push_refused (g.I.Inlet.seen c.args.inlet.now) (g.I.Inlet.seen c.prepare_answer.new.inlet) (g.O.Outlet.seen c.args.outlet.now)
    (g.O.Outlet.seen c.push.new.self)
    c.args.table.now c.in_ok-join.field-0.offered c.in_ok-join.field-0.join c.deref.result.now
    (c.deref.ensures.value ∙ c.in_ok-join.ensures.replies) c.in_ok-join.ensures.reads c.in_err-push.field-0.0
    (λ e. refused.fault (ap Err e)) (λ e. refused.front (ap Err e)) (λ e. refused.memory (ap Err e)))
