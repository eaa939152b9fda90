use Rattle.std.specs.Prelude.{slice_get}
use Rattle.std.proofs.Common.{◌≡◌, ◌<◌, Some, rules, refl, List, [], ◌∷◌, length, set, ap, subst, arith}
use Rattle.swim_table.specs.Node.{NodeValue}
use Rattle.swim_sync.specs.declared.event.Event.TheVariants.{Refute}
use Rattle.swim_sync.specs.Cluster.{Ran}
use Rattle.swim_sync.proofs.Clusters.{node_at, ran_refute, not_memory, refute_takes}
use Rattle.swim_sync.proofs.Pairs.{alike_but}
use Rattle.swim_sync.proofs.cluster.Cluster.refute.Goals as goal

pub returns-clause-ok : goal.returns-clause-ok
returns-clause-ok c =
    let number = c.len.ensures in
    let below = c.if-k-len.false in
    let within : c.args.k < length c.self.inside.nodes.items = (let same = ap length c.self.view_is
    in omega (arith, number, below, same)) in
    let at = node_at c.self.inside.nodes.items c.args.k c.index_mut.result.now within c.index_mut.ensures.value in
    subst (λ (nodes : List NodeValue). Ran nodes (set c.self.inside.nodes.items c.args.k c.refute.new.self)
    (Refute c.args.k ∷ [])) c.self.view_is
    (ran_refute c.self.inside.nodes.items c.args.k c.index_mut.result.now c.refute.new.self at c.refute.ensures.member
    (refute_takes c.index_mut.result.now c.refute.new.self c.refute.result c.refute.ensures.range c.refute.ensures.refuted
    c.refute.ensures.rest c.refute.ensures.exhausted c.refute.ensures.gone
    c.refute.ensures.err (not_memory _ _ refl c.refute.result c.if-eq.ensures)))

pub invariant_of-self : goal.invariant_of-self
invariant_of-self c =
    alike_but c.self.inside.nodes.items c.self.inside.alike c.forget.new.self c.args.k c.refute.new.self c.self.invariant c.forget.ensures

pub invariant_of-self-2 : goal.invariant_of-self-2
invariant_of-self-2 c =
    alike_but c.self.inside.nodes.items c.self.inside.alike c.forget.new.self c.args.k c.refute.new.self c.self.invariant c.forget.ensures

-- only a refutation that is due requests memory
pub returns-then-eq-clause-refused : goal.returns-then-eq-clause-refused
returns-then-eq-clause-refused c =
    let number = c.len.ensures in
    let below = c.if-k-len.false in
    let within : c.args.k < length c.args.self.now = omega (arith, number, below) in
    let inside : c.args.k < length c.self.inside.nodes.items = (let same = ap length c.self.view_is
    in omega (arith, number, below, same)) in
    let at = node_at c.self.inside.nodes.items c.args.k c.index_mut.result.now inside c.index_mut.ensures.value in (
      within,
      λ none. none,
      (
        c.index_mut.result.now,
        subst (λ (nodes : List NodeValue). slice_get nodes c.args.k ≡ Some c.index_mut.result.now) c.self.view_is at,
        c.refute.ensures.memory (search rules),
      ),
    )
