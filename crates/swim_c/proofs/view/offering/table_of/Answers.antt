use Rattle.std.proofs.Common.{◌≡◌, ◌∷◌, ℕ, List, subst, rules}
use Rattle.swim_c.specs.ViewMembers.{claims_of}
use Rattle.swim_c.proofs.Offering.{HasAllBut, TakesIn, one_more}
use Rattle.swim_c.proofs.view.offering.table_of.Goals as goal

pub loop-each-preserved : goal.loop-each-preserved
loop-each-preserved c =
    let all = c.args.view.now.entries in
    let name = c.in-Some.each.0.now in
    let entry = c.in-Some.each.1.now in
    let steps : c.loop-each.each-iterator ≡ (name, entry) ∷ c.next.new.self = search rules in
    one_more all c.next.new.self (name, entry) c.loop-each.table c.take_entry.new.table
    (subst (λ rest. HasAllBut all rest c.loop-each.table) steps c.loop-each.invariant)
    (subst (λ (n : List ℕ). TakesIn c.loop-each.table c.take_entry.new.table
    (claims_of n entry.inc entry.details entry.state)) c.name.ensures
    c.in_ok-take_entry.ensures)
