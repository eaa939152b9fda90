-- one wrapper less each time
use Rattle.memberlist_wrap.proofs.wrappers.+peel.Given as goal

abbrev pub decreases-peel : goal.decreases-peel
decreases-peel l = l.depth
