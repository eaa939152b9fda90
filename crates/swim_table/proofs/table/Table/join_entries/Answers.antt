use Rattle.std.proofs.Common.{◌≡◌, ◌∙◌, sym, ap, subst}
use Rattle.tiered_vec.specs.Tiers.{items, flatten}
use Rattle.swim_table.specs.Table.{IsLegalTable}
use Rattle.swim_table.specs.Join.{Join, put_each}
use Rattle.swim_table.proofs.Putting.{legal-Join, put_each-Join}
use Rattle.swim_table.proofs.Tables.{TableOf-Join}
use Rattle.swim_table.proofs.table.Table.join_entries.Goals as goal

own_table : (c : goal.After-put_entries) → IsLegalTable c.args.self.now
own_table c = subst IsLegalTable c.self.view_is c.self.invariant

other_table : (c : goal.After-put_entries) → IsLegalTable c.args.other
other_table c = subst IsLegalTable c.other.view_is c.other.invariant

joined : (c : goal.After-put_entries) → items c.put_entries.new.entries ≡ Join c.args.self.now c.args.other
joined c =
    let old : items c.reserve.new.self ≡ c.args.self.now = ap flatten c.reserve.ensures.blocks ∙ c.self.view_is in
    c.put_entries.ensures
    ∙ (λ j. put_each (old j) (c.other.view_is j))
    ∙ put_each-Join c.args.self.now c.args.other (own_table c) (other_table c)

pub returns-clause-join : goal.returns-clause-join
returns-clause-join c = joined c

pub returns-clause-all : goal.returns-clause-all
returns-clause-all c = λ claims others h g. rw (joined c) (TableOf-Join c.args.self.now c.args.other claims others h g)

pub invariant_of-self-2 : goal.invariant_of-self-2
invariant_of-self-2 c = subst IsLegalTable (sym (joined c)) (legal-Join c.args.self.now c.args.other (own_table c) (other_table c))
