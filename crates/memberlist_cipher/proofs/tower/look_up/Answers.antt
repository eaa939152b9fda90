use Rattle.std.proofs.Common.{arith}
use Rattle.memberlist_cipher.proofs.Lanes.{looked_up_is, swizzles}
use Rattle.memberlist_cipher.proofs.tower.look_up.Goals as goal

pub swizzle : goal.swizzle
swizzle c = swizzles c.args.places c.fits-places.0 c.requires

pub returns : goal.returns
returns c = looked_up_is c.args.table c.args.places 0 (omega arith) (omega (arith, c.fits-places.0))
