use Rattle.std.proofs.Common.{get_or, bit_xor}
use Rattle.std.proofs.lemmas.Simd.{zip2_of_maps}
use Rattle.memberlist_cipher.specs.Tower.{first_place, second_place, looked_up, plain}
use Rattle.memberlist_cipher.specs.declared.tower.TheConstants.{PLAIN_FIRST, PLAIN_SECOND}
use Rattle.memberlist_cipher.proofs.Lanes.{places, composed, first_places, second_places}
use Rattle.memberlist_cipher.proofs.tower.substituted.Goals as goal

pub look_up-requires : goal.look_up-requires
look_up-requires c = places first_place c.args.bytes _ c.fits-bytes.1 c.inverted.ensures.first first_places

pub look_up-requires-2 : goal.look_up-requires-2
look_up-requires-2 c = places second_place c.args.bytes _ c.fits-bytes.1 c.inverted.ensures.second second_places

pub returns : goal.returns
unfolding plain looked_up
returns c =
    let v = c.args.bytes in
    zip2_of_maps bit_xor (λ b. get_or PLAIN_FIRST (first_place b) 0) (λ b. get_or PLAIN_SECOND (second_place b) 0) v
    (composed PLAIN_FIRST first_place v c.look_up.ensures c.inverted.ensures.first)
    (composed PLAIN_SECOND second_place v c.look_up-2.ensures c.inverted.ensures.second)
