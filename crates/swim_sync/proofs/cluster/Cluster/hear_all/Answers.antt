use Rattle.std.proofs.Common.{◌<◌, List, [], ◌∷◌, ◌++◌, length, set, ap, subst, ◌∙◌, arith}
use Rattle.swim_claim.specs.declared.claim.Claim.{Claim}
use Rattle.swim_table.specs.Node.{NodeValue}
use Rattle.swim_table.specs.Table.{TableOf}
use Rattle.swim_sync.specs.declared.event.Event.TheVariants.{HearAll}
use Rattle.swim_sync.specs.Cluster.{Ran}
use Rattle.swim_sync.proofs.Clusters.{always_refused, node_at, ran_hear_all, unchanged_node}
use Rattle.swim_sync.proofs.Pairs.{alike_but}
use Rattle.swim_sync.proofs.cluster.Cluster.hear_all.Goals as goal

pub returns-in_err-take_all-clause-unchanged : goal.returns-in_err-take_all-clause-unchanged
returns-in_err-take_all-clause-unchanged c =
    let number = c.len.ensures in
    let below = c.if-k-len.false in
    let within : c.args.k < length c.self.inside.nodes.items = (let same = ap length c.self.view_is
    in omega (arith, number, below, same)) in
    let at = node_at c.self.inside.nodes.items c.args.k c.index_mut.result.now within c.index_mut.ensures.value in
    always_refused c.from_residual-in_err-take_all.result _
    (unchanged_node c.self.inside.nodes.items c.args.k c.index_mut.result.now c.take_all.new.self at
    c.in_err-take_all.ensures.member c.in_err-take_all.ensures.err
    ∙ c.self.view_is)

pub returns-clause-ok : goal.returns-clause-ok
returns-clause-ok c =
    let number = c.len.ensures in
    let below = c.if-k-len.false in
    let within : c.args.k < length c.self.inside.nodes.items = (let same = ap length c.self.view_is
    in omega (arith, number, below, same)) in
    let at = node_at c.self.inside.nodes.items c.args.k c.index_mut.result.now within c.index_mut.ensures.value in
    subst
    (λ (nodes : List NodeValue). Ran nodes (set c.self.inside.nodes.items c.args.k c.take_all.new.self)
    (HearAll c.args.k c.args.claims.now ∷ []))
    c.self.view_is
    (ran_hear_all c.self.inside.nodes.items c.args.k c.index_mut.result.now c.take_all.new.self
    c.args.claims.now at c.in_ok-take_all.ensures.member
    (λ claims h. subst (λ (all : List Claim). TableOf c.take_all.new.self.table (claims ++ all)) c.in_ok-claims.ensures
    (c.in_ok-take_all.ensures.all claims h)))

pub invariant_of-self : goal.invariant_of-self
invariant_of-self c =
    alike_but c.self.inside.nodes.items c.self.inside.alike c.forget.new.self c.args.k c.take_all.new.self c.self.invariant c.forget.ensures

pub invariant_of-self-2 : goal.invariant_of-self-2
invariant_of-self-2 c =
    alike_but c.self.inside.nodes.items c.self.inside.alike c.forget.new.self c.args.k c.take_all.new.self c.self.invariant c.forget.ensures
