use Rattle.std.proofs.Common.{[]}
use Rattle.swim_table.proofs.Changed.{IsSearching}
use Rattle.swim_table.proofs.news.finds_news.Given as goal

abbrev pub invariant-loop-entry : goal.invariant-loop-entry
invariant-loop-entry l = IsSearching l.fn.table l.fn.other [] l.entry-iterator
