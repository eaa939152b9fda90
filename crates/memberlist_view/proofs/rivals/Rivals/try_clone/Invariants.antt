-- the rivals so far
use Rattle.std.proofs.Common.{◌≡◌, take}
use Rattle.memberlist_view.proofs.rivals.Rivals.try_clone.Given as goal

abbrev pub invariant-loop-rival : goal.invariant-loop-rival
invariant-loop-rival l = l.details.items ≡ take l.rival-index l.rival-items
