-- one wrapper less each time
use Rattle.memberlist_wrap.proofs.wrappers.+unwrap_packed.Given as goal

abbrev pub decreases-unwrap_packed : goal.decreases-unwrap_packed
decreases-unwrap_packed l = l.depth
