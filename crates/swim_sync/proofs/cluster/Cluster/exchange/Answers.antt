use Rattle.std.proofs.Common.{◌≡◌, ◌++◌, ℕ, List, [], ◌∷◌, length, take, drop, sym, ap, subst, ◌∙◌, inl, inr, arith}
use Rattle.swim_table.specs.Lending.{with_table}
use Rattle.swim_table.specs.Node.{NodeValue}
use Rattle.swim_sync.specs.Alike.{AreAlike, HaveOneTable}
use Rattle.swim_sync.proofs.Pairs.{alike_two}
use Rattle.swim_sync.specs.declared.event.Event.TheVariants.{Exchange}
use Rattle.swim_sync.specs.Cluster.{Ran, BothExchange}
use Rattle.swim_sync.specs.Paths.{AreTwoNodes}
use Rattle.std.proofs.lemmas.Bool.{cases_lt}
use Rattle.swim_sync.proofs.Clusters.{ran_exchange, exchange_turned, all_written, length-exchanged}
use Rattle.swim_sync.proofs.cluster.Cluster.exchange.Goals as goal

-- what became of the two nodes
both_of : (c : goal.After-pair) → BothExchange c.self.inside.nodes.items c.exchange_nodes.new.nodes c.min-low.result c.max-high.result
both_of c =
    subst (λ (l : List NodeValue). BothExchange l c.exchange_nodes.new.nodes c.min-low.result c.max-high.result) c.deref_mut.ensures.value
    c.in_ok-exchange_nodes.ensures.exchanges

-- all nodes were written back
written_of : (c : goal.After-pair)
    → take c.self.inside.nodes.len (c.exchange_nodes.new.nodes ++ drop
    (length c.exchange_nodes.new.nodes) c.self.inside.nodes.items) ≡ c.exchange_nodes.new.nodes
written_of c =
    let items = c.self.inside.nodes.items in
    let number = c.deref_mut.ensures.len in
    all_written items c.exchange_nodes.new.nodes c.self.inside.nodes.len (sym number ∙ ap length c.deref_mut.ensures.value)
    (length-exchanged items c.exchange_nodes.new.nodes c.min-low.result c.max-high.result (both_of c))

pub returns-clause-ok : goal.returns-clause-ok
returns-clause-ok c =
    let items = c.self.inside.nodes.items in
    let new = c.exchange_nodes.new.nodes in
    let two : AreTwoNodes (length c.self.inside.nodes.items) c.args.first c.args.second =
    subst (λ (n : List NodeValue). AreTwoNodes (length n) c.args.first c.args.second) (sym c.self.view_is) c.in_ok-check_two.ensures.ok in
    let low = c.min-low.ensures in
    let high = c.max-high.ensures in
    let both = both_of c in
    subst (λ (l : List NodeValue). Ran c.args.self.now l (Exchange c.args.first c.args.second ∷ [])) (sym (written_of c))
    (subst (λ (l : List NodeValue). Ran l new (Exchange c.args.first c.args.second ∷ [])) c.self.view_is
    (elim (cases_lt c.args.first c.args.second) [
      | inl less ↦
          ran_exchange items new c.args.first c.args.second two
          (subst (λ (i : ℕ). BothExchange items new i c.args.second) (omega (arith, low, less))
          (subst (λ (i : ℕ). BothExchange items new c.min-low.result i) (omega (arith, high, less)) both))
      | inr past ↦
          exchange_turned items new c.args.first c.args.second two
          (subst (λ (i : ℕ). BothExchange items new i c.args.first) (omega (arith, low, past))
          (subst (λ (i : ℕ). BothExchange items new c.min-low.result i) (omega (arith, high, past)) both))
    ]))

pub invariant_of-self-2 : goal.invariant_of-self-2
invariant_of-self-2 c =
    let items = c.self.inside.nodes.items in
    let both = both_of c in
    let one = with_table both.first both.one in
    let other = with_table both.second both.other in
    subst (λ (l : List NodeValue). AreAlike l c.pair.new.self) (sym (written_of c ∙ both.nodes))
    (alike_two items c.self.inside.alike c.pair.new.self c.min-low.result c.max-high.result one other c.self.invariant c.pair.ensures
    (subst (λ (l : List NodeValue). HaveOneTable l c.min-low.result c.max-high.result) both.nodes c.in_ok-exchange_nodes.ensures.same))
