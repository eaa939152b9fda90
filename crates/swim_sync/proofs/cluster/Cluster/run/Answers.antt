use Rattle.std.proofs.Common.{subst, sym, refl, List, take, length}
use Rattle.std.proofs.lemmas.List.{take_all}
use Rattle.std.proofs.lemmas.Option.{slice_get_read}
use Rattle.swim_table.specs.Node.{NodeValue}
use Rattle.swim_sync.specs.declared.event.Event.{Event}
use Rattle.swim_sync.specs.Cluster.{Ran, StopsBy}
use Rattle.swim_sync.proofs.Clusters.{ran_nothing, ran_more}
use Rattle.swim_sync.proofs.cluster.Cluster.run.Goals as goal

pub loop-done-init : goal.loop-done-init
loop-done-init c = ran_nothing c.args.self.now

pub returns-in-Err-clause-stopped : goal.returns-in-Err-clause-stopped
returns-in-Err-clause-stopped c = record {
  before = c.loop-done-test.true;
  ran =
      subst (λ (nodes : List NodeValue). Ran c.args.self.now nodes (take c.loop-done.done c.args.events.now))
      (sym c.in-Err.ensures.unchanged) c.loop-done.invariant;
  why = (
    c.index-events-done.result,
    slice_get_read c.args.events.now (length c.args.events.now) c.loop-done.done c.index-events-done.result
        refl c.loop-done-test.true c.index-events-done.is,
    subst (λ (nodes : List NodeValue). StopsBy nodes c.index-events-done.result c.in-Err.why)
        (sym c.in-Err.ensures.unchanged) c.in-Err.ensures.refused,
  );
}

pub loop-done-preserved : goal.loop-done-preserved
loop-done-preserved c =
    ran_more c.args.self.now c.loop-done.self c.happen.new.self c.args.events.now c.loop-done.done c.index-events-done.result
    c.loop-done-test.true c.index-events-done.is c.loop-done.invariant c.in_default.ensures.ok

pub returns-clause-ok : goal.returns-clause-ok
returns-clause-ok c =
    subst (λ (events : List Event). Ran c.args.self.now c.loop-done.self events)
    (take_all c.loop-done.done c.args.events.now c.loop-done-test.false) c.loop-done.invariant
