use Rattle.std.proofs.Common.{◌∙◌, ℕ, Some, sym, ap, subst, List, length, arith}
use Rattle.std.proofs.lemmas.Result.{IfOk-weaker, IfErr-weaker}
use Rattle.swim_table.specs.Node.{NodeValue}
use Rattle.swim_sync.specs.declared.event.Event.{Event}
use Rattle.swim_sync.specs.Cluster.{Ran, Stopped}
use Rattle.swim_program.specs.declared.report.Report.{Report}
use Rattle.swimtab.proofs.Replaying.{stopped_in_plan, ran_plan, stops_plan}
use Rattle.swim_script.proofs.ScriptNumbers.{event_line_within}
use Rattle.swimtab.proofs.replay.played.Goals as goal

pub returns-in-Err-clause-stops : goal.returns-in-Err-clause-stops
returns-in-Err-clause-stops c =
    let stopped = subst (λ (events : List Event). Stopped c.args.plan.nodes.items c.run.new.self events c.in-Err.stop) c.deref.ensures.value
    (subst (λ (nodes : List NodeValue). Stopped nodes c.run.new.self c.deref.result.now c.in-Err.stop)
    c.new-cluster.ensures c.in-Err.ensures.stopped) in (
      c.run.new.self,
      c.in-Err.stop,
      c.index.result.now,
      stopped_in_plan c.args.plan.nodes.items c.run.new.self c.args.plan.events.items
          (length c.args.plan.nodes.items) c.args.plan.level c.in-Err.stop stopped,
      ap (λ (r : Report). r.what) c.at.ensures ∙ c.what_of_why.ensures,
      event_line_within c.args.plan.lines.items c.args.plan.level c.in-Err.stop.done c.index.result.now
          (omega (arith, stopped.before, c.requires.lines))
          ∙ ap (λ (n : ℕ). Some n) (sym c.index.ensures),
      ap (λ (r : Report). r.place) c.at.ensures,
    )

pub returns-in-Some-clause-runs : goal.returns-in-Some-clause-runs
returns-in-Some-clause-runs c =
    let ran = subst (λ (events : List Event). Ran c.args.plan.nodes.items c.run.new.self events) c.deref.ensures.value
    (subst (λ (nodes : List NodeValue). Ran nodes c.run.new.self c.deref.result.now) c.new-cluster.ensures c.in_default.ensures.ok) in
    IfOk-weaker c.levelled.result _ _
    (λ new. ran_plan c.args.plan.nodes.items c.run.new.self new c.args.plan.events.items c.args.plan.level c.in-Some.line c.in-Some.is ran)
    c.levelled.ensures.runs

pub returns-in-Some-clause-stops : goal.returns-in-Some-clause-stops
returns-in-Some-clause-stops c =
    let ran = subst (λ (events : List Event). Ran c.args.plan.nodes.items c.run.new.self events) c.deref.ensures.value
    (subst (λ (nodes : List NodeValue). Ran nodes c.run.new.self c.deref.result.now) c.new-cluster.ensures c.in_default.ensures.ok) in
    IfErr-weaker c.levelled.result _ _
    (λ report. stops_plan c.args.plan.nodes.items c.run.new.self c.args.plan.events.items c.args.plan.lines.items
    c.args.plan.level c.in-Some.line report c.in-Some.is c.requires.lines ran)
    c.levelled.ensures.stops
