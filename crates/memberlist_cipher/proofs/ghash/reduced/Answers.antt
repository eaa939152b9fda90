use Rattle.std.proofs.Common.{◌<◌, ◌^◌, arith}
use Rattle.memberlist_cipher.proofs.Folding.{reduced_is}
use Rattle.memberlist_cipher.proofs.ghash.reduced.Goals as goal

pub returns : goal.returns
returns c =
    let small : c.from_be_bytes-high.result < 2 ^ 128 = omega arith in
    reduced_is c.args.below c.args.above _ _ c.fits-below.0 c.fits-above.0 c.fits-below.1 c.fits-above.1
    c.from_be_bytes-low.ensures c.from_be_bytes-high.ensures small c.requires
