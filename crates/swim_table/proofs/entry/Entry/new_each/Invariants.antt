use Rattle.std.proofs.Common.{◌≡◌, ◌++◌, length, map, All}
use Rattle.std.specs.Vec.Iter.{into_iter_items, into_iter_len}
use Rattle.swim_claim.specs.Claim.{IsLegalClaim}
use Rattle.swim_table.specs.Join.{standing_of}
use Rattle.swim_table.proofs.entry.Entry.new_each.Given as goal

abbrev pub invariant-loop-claim : goal.invariant-loop-claim
invariant-loop-claim l = record {
  whole : l.entries.items ++ map standing_of (into_iter_items l.claim-iterator) ≡ map standing_of l.fn.claims.items;
  legal : All IsLegalClaim (into_iter_items l.claim-iterator) → All IsLegalClaim l.fn.claims.items;
  counted : into_iter_len l.claim-iterator ≡ length (into_iter_items l.claim-iterator);
}
