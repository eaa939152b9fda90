use Rattle.std.proofs.Common.{get_or, bit_xor}
use Rattle.std.proofs.lemmas.Simd.{zip2_of_maps}
use Rattle.memberlist_cipher.specs.Tower.{first_place, second_place, looked_up, once, twice}
use Rattle.memberlist_cipher.specs.declared.tower.TheConstants.{ONCE_FIRST, ONCE_SECOND, TWICE_FIRST, TWICE_SECOND}
use Rattle.memberlist_cipher.proofs.Lanes.{places, composed, first_places, second_places}
use Rattle.memberlist_cipher.proofs.tower.once_and_twice.Goals as goal

pub look_up-requires : goal.look_up-requires
look_up-requires c = places first_place c.args.bytes _ c.fits-bytes.1 c.inverted.ensures.first first_places

pub look_up-requires-2 : goal.look_up-requires-2
look_up-requires-2 c = places second_place c.args.bytes _ c.fits-bytes.1 c.inverted.ensures.second second_places

pub look_up-requires-3 : goal.look_up-requires-3
look_up-requires-3 c = places first_place c.args.bytes _ c.fits-bytes.1 c.inverted.ensures.first first_places

pub look_up-requires-4 : goal.look_up-requires-4
look_up-requires-4 c = places second_place c.args.bytes _ c.fits-bytes.1 c.inverted.ensures.second second_places

pub returns-clause-once : goal.returns-clause-once
unfolding once looked_up
returns-clause-once c =
    let v = c.args.bytes in
    zip2_of_maps bit_xor (λ b. get_or ONCE_FIRST (first_place b) 0) (λ b. get_or ONCE_SECOND (second_place b) 0) v
    (composed ONCE_FIRST first_place v c.look_up.ensures c.inverted.ensures.first)
    (composed ONCE_SECOND second_place v c.look_up-2.ensures c.inverted.ensures.second)

pub returns-clause-twice : goal.returns-clause-twice
unfolding twice looked_up
returns-clause-twice c =
    let v = c.args.bytes in
    zip2_of_maps bit_xor (λ b. get_or TWICE_FIRST (first_place b) 0) (λ b. get_or TWICE_SECOND (second_place b) 0) v
    (composed TWICE_FIRST first_place v c.look_up-3.ensures c.inverted.ensures.first)
    (composed TWICE_SECOND second_place v c.look_up-4.ensures c.inverted.ensures.second)
