use Rattle.std.proofs.Common.{◌≡◌, Some, List, [], ◌∷◌, ◌++◌, length, set, ap, subst, ◌∙◌, arith}
use Rattle.std.specs.Prelude.{slice_get}
use Rattle.swim_claim.specs.declared.claim.Claim.{Claim}
use Rattle.swim_table.specs.Node.{NodeValue}
use Rattle.swim_table.specs.Table.{TableOf}
use Rattle.swim_sync.specs.declared.event.Event.TheVariants.{Hear}
use Rattle.swim_sync.specs.Cluster.{Ran}
use Rattle.swim_sync.proofs.Clusters.{done, not_done, refused, not_refused, node_at, ran_hear, unchanged_node}
use Rattle.swim_sync.proofs.Pairs.{alike_but}
use Rattle.swim_sync.proofs.cluster.Cluster.hear.Goals as goal
use Rattle.swim_sync.proofs.cluster.Cluster.hear.Goals.{in-Ok, in-Err}

at : (c : goal.Joined-take-2) → slice_get c.self.inside.nodes.items c.args.k ≡ Some c.index_mut.result.now
at c =
    let number = c.len.ensures in
    let below = c.if-k-len.false in
    node_at c.self.inside.nodes.items c.args.k c.index_mut.result.now
    (let same = ap length c.self.view_is in omega (arith, number, below, same)) c.index_mut.ensures.value

pub returns-clause-ok : goal.returns-clause-ok
returns-clause-ok c = elim c.match-take.branch [
  | in-Ok w ↦
      done c.match-take.result _ _ w.result-is
      (subst (λ (nodes : List NodeValue). Ran nodes (set c.self.inside.nodes.items c.args.k c.take.new.self)
      (Hear c.args.k c.args.claim.now ∷ []))
      c.self.view_is
      (ran_hear c.self.inside.nodes.items c.args.k c.index_mut.result.now c.take.new.self c.args.claim.now (at c) w.in-Ok.ensures.member
      (λ claims h. subst (λ (d : Claim). TableOf c.take.new.self.table
      (claims ++ d ∷ [])) c.in_ok-claim.ensures (w.in-Ok.ensures.all claims h))))
  | in-Err w ↦ not_done c.match-take.result _ _ w.result-is
]

pub returns-clause-unchanged : goal.returns-clause-unchanged
returns-clause-unchanged c = elim c.match-take.branch [
  | in-Ok w ↦ not_refused c.match-take.result _ _ w.result-is
  | in-Err w ↦
      refused c.match-take.result _ _ w.result-is
      (unchanged_node c.self.inside.nodes.items c.args.k c.index_mut.result.now c.take.new.self
      (at c) w.in-Err.ensures.member w.in-Err.ensures.err
      ∙ c.self.view_is)
]

pub invariant_of-self : goal.invariant_of-self
invariant_of-self c =
    alike_but c.self.inside.nodes.items c.self.inside.alike c.forget.new.self c.args.k c.take.new.self c.self.invariant c.forget.ensures
