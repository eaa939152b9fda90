use Rattle.std.proofs.Common.{◌≡◌, ◌++◌}
use Rattle.swim_table.specs.Listing.{listing}
use Rattle.swim_table.proofs.listing.list.Given as goal

abbrev pub invariant-loop-entry : goal.invariant-loop-entry
invariant-loop-entry l = l.text.items ++ listing l.entry-iterator ≡ listing l.fn.table
