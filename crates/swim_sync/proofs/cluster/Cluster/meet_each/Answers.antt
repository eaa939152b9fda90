use Rattle.std.proofs.Common.{◌+◌, subst, sym, refl, List, take, arith}
use Rattle.std.proofs.lemmas.List.{take_all}
use Rattle.std.proofs.lemmas.Option.{get_or_from_slice_get}
use Rattle.swim_table.specs.Node.{NodeValue}
use Rattle.swim_sync.specs.declared.event.Event.{Event}
use Rattle.swim_sync.specs.declared.event.Event.TheVariants.{Exchange}
use Rattle.swim_sync.specs.Cluster.{Ran, StopsBy}
use Rattle.swim_sync.specs.Levels.{meet_each}
use Rattle.swim_sync.proofs.Clusters.{ran_nothing, ran_more}
use Rattle.swim_sync.proofs.Levelling.{met_at, length-meet_each}
use Rattle.swim_sync.proofs.cluster.Cluster.meet_each.Goals as goal

pub loop-met-init : goal.loop-met-init
loop-met-init c = (ran_nothing c.args.self.now, λ none. refl)

pub returns-in-Err-clause-stopped : goal.returns-in-Err-clause-stopped
returns-in-Err-clause-stopped c =
    let same = c.in-Err.ensures.unchanged in (
      c.loop-met.met,
      c.loop-met-test.true,
      refl,
      subst (λ (nodes : List NodeValue). Ran c.args.self.now nodes
          (take c.loop-met.met (meet_each c.args.count))) (sym same) c.loop-met.invariant.0,
      subst (λ (nodes : List NodeValue). StopsBy nodes (Exchange 0 (c.loop-met.met + 1)) c.in-Err.why) (sym same) c.in-Err.ensures.refused,
    )

pub loop-met-preserved : goal.loop-met-preserved
loop-met-preserved c =
    let event = Exchange 0 (c.loop-met.met + 1) in
    let number = length-meet_each c.args.count in
    let below = c.loop-met-test.true in
    let at = get_or_from_slice_get (meet_each c.args.count) c.loop-met.met event event (met_at c.args.count c.loop-met.met below) in (
      ran_more c.args.self.now c.loop-met.self c.exchange.new.self (meet_each c.args.count) c.loop-met.met event
          (omega (arith, number, below)) (sym at) c.loop-met.invariant.0 c.in_default.ensures.ok,
      λ none. absurd (omega (arith, none)),
    )

pub returns-clause-ok : goal.returns-clause-ok
returns-clause-ok c =
    let number = length-meet_each c.args.count in
    let past = c.loop-met-test.false in
    subst (λ (events : List Event). Ran c.args.self.now c.loop-met.self events)
    (take_all c.loop-met.met (meet_each c.args.count) (omega (arith, number, past))) c.loop-met.invariant.0
