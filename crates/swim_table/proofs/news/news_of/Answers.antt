use Rattle.std.proofs.Common.{◌≡◌, ◌∷◌, subst, rules}
use Rattle.swim_table.specs.Table.{TableOf, Reduced}
use Rattle.swim_table.proofs.Changed.{IsSearching, searching_noted, searching_passed, searching_end}
use Rattle.swim_table.proofs.news.news_of.Goals as goal

pub loop-entry-preserved-in-Continue-1 : goal.loop-entry-preserved-in-Continue-1
loop-entry-preserved-in-Continue-1 c =
    let steps : c.loop-entry.entry-iterator ≡ c.in-Some.entry.now ∷ c.next.new.self = search rules in
    let own : TableOf c.note.new.names (Reduced c.note.new.names) = subst
    (λ t. TableOf t (Reduced t)) c.news.view_is c.news.invariant.own in
    searching_noted c.args.table.now c.args.other.now c.loop-entry.news c.in-Some.entry.now c.next.new.self
    (subst (IsSearching c.args.table.now c.args.other.now c.loop-entry.news) steps c.loop-entry.invariant)
    c.note.new.names own c.in_ok-note.ensures (rw c.if-is_news.true at c.is_news.ensures)

pub loop-entry-preserved : goal.loop-entry-preserved
loop-entry-preserved c =
    let steps : c.loop-entry.entry-iterator ≡ c.in-Some.entry.now ∷ c.next.new.self = search rules in
    searching_passed c.args.table.now c.args.other.now c.loop-entry.news c.in-Some.entry.now c.next.new.self
    (subst (IsSearching c.args.table.now c.args.other.now c.loop-entry.news) steps c.loop-entry.invariant)
    (rw c.if-is_news.false at c.is_news.ensures)

pub returns : goal.returns
returns c =
    searching_end c.args.table.now c.args.other.now c.loop-entry.news c.len.ensures.legal.own c.entries-entry-items.ensures.legal.own
    (search rules)
