use Rattle.std.proofs.Common.{◌∙◌, ap, subst}
use Rattle.std.specs.List.Sorted.{IsPermutation}
use Rattle.tiered_vec.specs.Tiers.{items}
use Rattle.swim_table.specs.Table.{Reduced, IsLegalTable}
use Rattle.swim_table.specs.Join.{put_each}
use Rattle.swim_table.proofs.Taking.{IsTakenIn, all_taken_in_sorted}
use Rattle.swim_table.proofs.table.Table.take_all.Goals as goal

own_table : (c : goal.In_ok-put_sorted) → IsLegalTable c.args.self.now
own_table c = subst IsLegalTable c.self.view_is c.self.invariant

all_in : (c : goal.In_ok-put_sorted) → IsTakenIn c.args.self.now (items c.put_sorted.new.entries) c.args.claims.items
all_in c =
    let put = c.in_ok-put_sorted.ensures.ok in
    all_taken_in_sorted c.args.self.now (items c.put_sorted.new.entries) c.args.claims.items put.0
    (own_table c) c.in_ok-others.ensures.legal
    (subst (λ es. IsPermutation es put.0) c.in_ok-others.ensures.ok put.1)
    (put.2 ∙ ap (λ t. put_each t put.0) c.self.view_is)

pub invariant_of-self-2 : goal.invariant_of-self-2
invariant_of-self-2 c = (all_in c).legal

pub returns-clause-ok : goal.returns-clause-ok
returns-clause-ok c = (all_in c).all (Reduced c.args.self.now) (own_table c).own

pub returns-clause-all : goal.returns-clause-all
returns-clause-all c = (all_in c).all
