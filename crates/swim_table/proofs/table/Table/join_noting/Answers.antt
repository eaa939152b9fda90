use Rattle.std.proofs.Common.{◌≡◌, ◌∙◌, OnErr, Result, Ok, Err, sym, ap, subst, rules}
use Rattle.tiered_vec.specs.Tiers.{items, flatten}
use Rattle.swim_table.specs.Join.{Join, put_each}
use Rattle.swim_table.specs.Table.{IsLegalTable}
use Rattle.swim_table.proofs.Putting.{legal-Join, put_each-Join}
use Rattle.swim_table.proofs.table.Table.join_noting.Goals as goal

own_table : (c : goal.After-put_entries) → IsLegalTable c.args.noted.now
own_table c = subst IsLegalTable c.noted.view_is c.noted.invariant

other_table : (c : goal.After-put_entries) → IsLegalTable c.args.names
other_table c = subst IsLegalTable c.names.view_is c.names.invariant

joined : (c : goal.After-put_entries) → items c.put_entries.new.entries ≡ Join c.args.noted.now c.args.names
joined c =
    let old : items c.reserve.new.self ≡ c.args.noted.now = ap flatten c.in_ok-reserve.ensures.blocks ∙ c.noted.view_is in
    c.put_entries.ensures
    ∙ (λ j. put_each (old j) (c.names.view_is j))
    ∙ put_each-Join c.args.noted.now c.args.names (own_table c) (other_table c)

pub returns-in-Ok-clause-noted : goal.returns-in-Ok-clause-noted
returns-in-Ok-clause-noted c = joined c

pub invariant_of-noted-in-Ok : goal.invariant_of-noted-in-Ok
invariant_of-noted-in-Ok c = subst IsLegalTable (sym (joined c)) (legal-Join c.args.noted.now c.args.names (own_table c) (other_table c))

on_err : {A E : Type 0} (r : Result A E) (P : Type 0) → P → OnErr r P
on_err (Ok x) P p = tt
on_err (Err e) P p = p

pub returns-in_err-reserve-clause-err : goal.returns-in_err-reserve-clause-err
returns-in_err-reserve-clause-err c =
    on_err c.from_residual.result _ (search rules, ap flatten c.in_err-reserve.ensures.blocks ∙ c.noted.view_is)
