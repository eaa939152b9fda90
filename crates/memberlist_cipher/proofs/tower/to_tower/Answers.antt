use Rattle.std.proofs.Common.{refl, get_or, bit_xor}
use Rattle.std.proofs.lemmas.Simd.{zip2_of_maps}
use Rattle.memberlist_cipher.specs.Tower.{is_place, tower}
use Rattle.memberlist_cipher.specs.declared.tower.TheConstants.{LOW, HIGH}
use Rattle.memberlist_cipher.proofs.Lanes.{places, composed, high, low, high_is, low_is}
use Rattle.memberlist_cipher.proofs.tower.to_tower.Goals as goal

pub look_up-requires : goal.look_up-requires
unfolding is_place
look_up-requires c = places low c.args.bytes _ c.fits-bytes.1 (low_is c.args.bytes c.fits-bytes) refl

pub look_up-requires-2 : goal.look_up-requires-2
unfolding is_place
look_up-requires-2 c = places high c.args.bytes _ c.fits-bytes.1 (high_is c.args.bytes c.fits-bytes) refl

pub returns : goal.returns
unfolding tower
returns c =
    let v = c.args.bytes in
    zip2_of_maps bit_xor (λ b. get_or LOW (low b) 0) (λ b. get_or HIGH (high b) 0) v
    (composed LOW low v c.look_up.ensures (low_is v c.fits-bytes))
    (composed HIGH high v c.look_up-2.ensures (high_is v c.fits-bytes))
