use Rattle.std.proofs.Common.{refl}
use Rattle.memberlist_wrap.specs.Bits.{bits}
use Rattle.memberlist_compress.proofs.held.Held.new.Goals as goal

pub returns : goal.returns
unfolding bits
returns c = refl
