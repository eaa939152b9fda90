use Rattle.std.proofs.Common.{inl, inr, sym, ap, subst, get_or, arith}
use Rattle.std.proofs.lemmas.Result.{IfErr-weaker}
use Rattle.swim_table.specs.Table.{Entries, TableOf}
use Rattle.swim_sync.specs.declared.event.Event.TheVariants.{Exchange}
use Rattle.swim_sync.specs.Exchanging.{HasTooMany}
use Rattle.swim_sync.proofs.Nodes.{at_front, at_back}
use Rattle.swim_sync.proofs.Clusters.{both_in_parts, ok_both, hinders_as, too_many_at}
use Rattle.swim_sync.proofs.cluster.exchange_nodes.Goals as goal

pub returns-clause-exchanges : goal.returns-clause-exchanges
returns-clause-exchanges c =
    let first = get_or c.split_at_mut-front.result.0.now c.args.low c.index-front-low.result in
    let second = get_or c.split_at_mut-front.result.1.now 0 c.index-back-0.result in
    let own = c.table_mut.ensures.table in
    let theirs = c.table_mut-2.ensures.table in
    ok_both c.exchanged.result
    (λ all few. both_in_parts c.args.nodes.now c.split_at_mut-front.result.0.now
    c.split_at_mut-front.result.1.now c.args.low c.args.high first second
    c.exchanged.new.first c.exchanged.new.second c.split_at_mut-front.ensures.value
    c.split_at_mut-front.ensures.front_len c.requires.order c.requires.nodes
    (ap (λ d. get_or c.split_at_mut-front.result.0.now c.args.low d) c.index-front-low.is)
    (ap (λ d. get_or c.split_at_mut-front.result.1.now 0 d) c.index-back-0.is)
    (λ many. few (inl (subst HasTooMany (sym own) many)), λ many. few (inr (subst HasTooMany (sym theirs) many)))
    (λ claims others h g. all claims others (subst (λ (t : Entries). TableOf t claims) (sym own) h)
    (subst (λ (t : Entries). TableOf t others) (sym theirs) g)))
    c.exchanged.ensures.all c.exchanged.ensures.few

pub returns-clause-refused : goal.returns-clause-refused
returns-clause-refused c =
    let first = get_or c.split_at_mut-front.result.0.now c.args.low c.index-front-low.result in
    let second = get_or c.split_at_mut-front.result.1.now 0 c.index-back-0.result in
    let at_first =
    at_front c.args.nodes.now c.split_at_mut-front.result.0.now c.split_at_mut-front.result.1.now c.args.low
    first c.split_at_mut-front.ensures.value
    (let size = c.split_at_mut-front.ensures.front_len in omega (arith, size, c.requires.order))
    (ap (λ d. get_or c.split_at_mut-front.result.0.now c.args.low d) c.index-front-low.is) in
    let at_second =
    at_back c.args.nodes.now c.split_at_mut-front.result.0.now c.split_at_mut-front.result.1.now c.args.high
    second c.split_at_mut-front.ensures.value
    c.split_at_mut-front.ensures.front_len c.requires.nodes (ap (λ d. get_or c.split_at_mut-front.result.1.now 0 d) c.index-back-0.is) in
    IfErr-weaker c.exchanged.result _ _
    (λ why. hinders_as _ _ (λ many. too_many_at c.args.nodes.now c.args.low c.args.high first second
    (Exchange c.args.low c.args.high) at_first at_second (λ x of. of)
    (elim many [
      | inl own ↦ inl (subst HasTooMany c.table_mut.ensures.table own)
      | inr theirs ↦ inr (subst HasTooMany c.table_mut-2.ensures.table theirs)
    ])) why) c.exchanged.ensures.refused
