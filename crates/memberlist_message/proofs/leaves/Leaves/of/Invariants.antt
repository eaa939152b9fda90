use Rattle.std.proofs.Common.{map}
use Rattle.memberlist_message.proofs.Opening.{Going, weight}
use Rattle.memberlist_message.proofs.leaves.Leaves.of.Given as goal

abbrev pub invariant-loop-parts : goal.invariant-loop-parts
invariant-loop-parts l = Going l.message (map (λ part. part.now) l.taken.items) l.truncated l.stack.items

abbrev pub decreases-loop-parts : goal.decreases-loop-parts
decreases-loop-parts l = weight l.stack.items
