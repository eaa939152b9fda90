use Rattle.std.proofs.Common.{◌∙◌, Err, sym, ap, subst, length}
use Rattle.std.proofs.lemmas.Result.{err_from_is_err_and}
use Rattle.swim_program.specs.declared.report.Report.{Report}
use Rattle.swimtab.specs.Replay.{IsOfEvent}
use Rattle.swim_script.specs.ScriptReading.{plan_events}
use Rattle.swimtab.proofs.Replaying.{replayed, refused_event, why_of_event}
use Rattle.swim_script.proofs.ScriptRun.{wrong_line_no_script}
use Rattle.swimtab.proofs.replay.script.Goals as goal

pub returns-in_err-plan-clause-refuses : goal.returns-in_err-plan-clause-refuses
returns-in_err-plan-clause-refuses c =
    let err = err_from_is_err_and c.from_residual.result c.from_residual.ensures.1 in
    rw (err.1 ∙ ap (λ (r : Report). Err r) err.2)
    (λ not_memory short other. wrong_line_no_script c.args.input.now c.in_err-plan.field-0.0.place
    c.in_err-plan.field-0.0.what (c.in_err-plan.ensures.line not_memory short))

pub returns-in_err-plan-clause-line : goal.returns-in_err-plan-clause-line
returns-in_err-plan-clause-line c =
    let err = err_from_is_err_and c.from_residual.result c.from_residual.ensures.1 in
    rw (err.1 ∙ ap (λ (r : Report). Err r) err.2) (λ not_memory short other. c.in_err-plan.ensures.line not_memory short)

pub returns-in_err-cluster-clause-events : goal.returns-in_err-cluster-clause-events
returns-in_err-cluster-clause-events c =
    let err = err_from_is_err_and c.from_residual-in_err-cluster.result c.from_residual-in_err-cluster.ensures.1 in
    let read = c.in_ok-plan.ensures.reads in
    let plan = c.in_ok-plan.plan in
    rw (err.1 ∙ ap (λ (r : Report). Err r) err.2)
    (λ of. refused_event c.args.input.now plan.nodes.items read.0
    (plan_events plan.events.items (length plan.nodes.items) plan.level) plan.lines.items plan.level c.in_err-cluster.field-0.0
    read.1 read.2 read.3 c.in_err-cluster.ensures.stops)

pub returns-in_err-cluster-clause-line : goal.returns-in_err-cluster-clause-line
returns-in_err-cluster-clause-line c =
    let err = err_from_is_err_and c.from_residual-in_err-cluster.result c.from_residual-in_err-cluster.ensures.1 in
    let stops = c.in_err-cluster.ensures.stops in
    rw (err.1 ∙ ap (λ (r : Report). Err r) err.2)
    (λ not_memory short other. absurd (other
    (subst IsOfEvent (sym stops.4) (why_of_event stops.1.why
    (λ memory. not_memory (stops.4 ∙ memory))))))

pub returns-in-Ok-clause-replays : goal.returns-in-Ok-clause-replays
returns-in-Ok-clause-replays c =
    let read = c.in_ok-plan.ensures.reads in
    let plan = c.in_ok-plan.plan in
    replayed c.args.input.now c.in-Ok.text.items plan.nodes.items c.in_ok-cluster.cluster read.0
    (plan_events plan.events.items (length plan.nodes.items) plan.level) read.1 read.2 c.in_ok-cluster.ensures.runs
    c.in-Ok.ensures
