use Rattle.std.proofs.Common.{◌≡◌, take}
use Rattle.swim_sync.proofs.event.Claims.copies.Given as goal

abbrev pub invariant-loop-claim : goal.invariant-loop-claim
invariant-loop-claim l = l.copies.items ≡ take l.claim-index l.claim-items
