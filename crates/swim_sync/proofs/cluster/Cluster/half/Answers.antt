use Rattle.std.proofs.Common.{List, [], ◌∷◌, length, set, sym, subst, inr, refl}
use Rattle.std.proofs.lemmas.Result.{IfErr-weaker}
use Rattle.swim_table.specs.Lending.{with_table}
use Rattle.swim_table.specs.Node.{NodeValue}
use Rattle.swim_table.specs.Table.{Entries, TableOf}
use Rattle.swim_sync.specs.declared.event.Event.TheVariants.{Half}
use Rattle.swim_sync.specs.Cluster.{Ran, StopsBy}
use Rattle.swim_sync.specs.Exchanging.{HasTooMany}
use Rattle.swim_sync.specs.OverMemory.{IsOffer, Hinders}
use Rattle.swim_sync.specs.Paths.{AreTwoNodes}
use Rattle.swim_sync.proofs.Clusters.{ok_both, node_at, few_enough, ran_half, stops_half}
use Rattle.swim_sync.proofs.Pairs.{alike_but}
use Rattle.swim_sync.proofs.cluster.Cluster.half.Goals as goal

pub returns-clause-ok : goal.returns-clause-ok
returns-clause-ok c =
    let two : AreTwoNodes (length c.self.inside.nodes.items) c.args.first c.args.second =
    subst (λ (n : List NodeValue). AreTwoNodes (length n) c.args.first c.args.second) (sym c.self.view_is) c.in_ok-check_two.ensures.ok in
    let at_first = node_at c.self.inside.nodes.items c.args.first c.index.result.now two.0 c.index.ensures in
    let at_second = node_at c.self.inside.nodes.items c.args.second c.index_mut.result.now two.1 c.index_mut.ensures.value in
    let own = c.table.ensures.table in
    let theirs = c.table_mut.ensures.table in
    ok_both c.answered.result
    (λ takes few. subst (λ (nodes : List NodeValue). Ran nodes (set c.self.inside.nodes.items c.args.second
    (with_table c.index_mut.result.now c.answered.new.table)) (Half c.args.first c.args.second ∷ []))
    c.self.view_is
    (ran_half c.self.inside.nodes.items c.args.first c.args.second c.index.result.now c.index_mut.result.now
    (with_table c.index_mut.result.now c.answered.new.table) two at_first at_second
    (record { name = refl; details = refl }) (
      subst (λ (t : Entries). ¬ HasTooMany t) own (few_enough c.table.result.now c.in_ok-offer.ensures.offers.few),
      subst (λ (t : Entries). ¬ HasTooMany t) theirs few,
    )
    (λ claims others h g. takes c.table.result.now
    (subst (IsOffer c.table.result.now) (sym c.bytes.ensures) c.in_ok-offer.ensures.offers) claims others
    (subst (λ (t : Entries). TableOf t claims) (sym theirs) h) (subst (λ (t : Entries). TableOf t others) (sym own) g))))
    c.answered.ensures.takes c.answered.ensures.few

pub returns-clause-refused : goal.returns-clause-refused
returns-clause-refused c =
    let two : AreTwoNodes (length c.self.inside.nodes.items) c.args.first c.args.second =
    subst (λ (n : List NodeValue). AreTwoNodes (length n) c.args.first c.args.second) (sym c.self.view_is) c.in_ok-check_two.ensures.ok in
    let at_second = node_at c.self.inside.nodes.items c.args.second c.index_mut.result.now two.1 c.index_mut.ensures.value in
    IfErr-weaker c.answered.result _ _
    (λ why hinders. subst (λ (nodes : List NodeValue). StopsBy nodes (Half c.args.first c.args.second) why) c.self.view_is
    (stops_half c.self.inside.nodes.items c.args.first c.args.second c.args.second c.index_mut.result.now two at_second (inr refl) why
    (subst (λ (t : Entries). Hinders (HasTooMany t) why) c.table_mut.ensures.table hinders)))
    c.answered.ensures.refused

pub invariant_of-self : goal.invariant_of-self
invariant_of-self c =
    alike_but c.self.inside.nodes.items c.self.inside.alike c.forget.new.self c.args.second
    (with_table c.index_mut.result.now c.answered.new.table) c.self.invariant c.forget.ensures
