use Rattle.std.proofs.Common.{◌≡◌, ◌∷◌, [], subst, sym, rules}
use Rattle.swim_table.proofs.Changed.{IsSearching, changed_here, searching_passed, searching_start, unchanged_end}
use Rattle.swim_table.proofs.news.finds_news.Goals as goal

pub loop-entry-init : goal.loop-entry-init
loop-entry-init c =
    let is : c.into_iter-entry-iterator.result ≡ c.args.other.now = search rules in
    subst (IsSearching c.args.table.now c.args.other.now []) (sym is)
    (searching_start c.args.table.now c.args.other.now c.entries-entry-items.ensures.legal.own.ascending)

pub returns-then-is_news : goal.returns-then-is_news
returns-then-is_news c =
    let steps : c.loop-entry.entry-iterator ≡ c.in-Some.entry.now ∷ c.next.new.self = search rules in
    changed_here c.args.table.now c.args.other.now [] c.in-Some.entry.now c.next.new.self
    (subst (IsSearching c.args.table.now c.args.other.now []) steps c.loop-entry.invariant)
    c.len.ensures.legal.own c.entries-entry-items.ensures.legal.own (rw c.if-is_news.true at c.is_news.ensures)

pub loop-entry-preserved : goal.loop-entry-preserved
loop-entry-preserved c =
    let steps : c.loop-entry.entry-iterator ≡ c.in-Some.entry.now ∷ c.next.new.self = search rules in
    searching_passed c.args.table.now c.args.other.now [] c.in-Some.entry.now c.next.new.self
    (subst (IsSearching c.args.table.now c.args.other.now []) steps c.loop-entry.invariant)
    (rw c.if-is_news.false at c.is_news.ensures)

pub returns : goal.returns
returns c =
    let ended : c.loop-entry.entry-iterator ≡ [] = search rules in
    unchanged_end c.args.table.now c.args.other.now c.len.ensures.legal.own c.entries-entry-items.ensures.legal.own
    (subst (IsSearching c.args.table.now c.args.other.now []) ended c.loop-entry.invariant)
