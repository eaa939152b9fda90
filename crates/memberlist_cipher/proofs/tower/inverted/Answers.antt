use Rattle.std.proofs.Common.{refl, bit_xor}
use Rattle.std.proofs.lemmas.Simd.{zip2_of_maps}
use Rattle.memberlist_cipher.specs.Tower.{is_place, sum, quotient, first_place, second_place}
use Rattle.memberlist_cipher.specs.declared.tower.TheConstants.{INVERSES, QUOTIENTS}
use Rattle.memberlist_cipher.proofs.Lanes.{places, composed, high, low, inverse_of, high_is, low_is, sum_is}
use Rattle.memberlist_cipher.proofs.tower.inverted.Goals as goal

pub look_up-quotient-requires : goal.look_up-quotient-requires
unfolding is_place
look_up-quotient-requires c = places low c.args.bytes _ c.fits-bytes.1 (low_is c.args.bytes c.fits-bytes) refl

pub look_up-requires : goal.look_up-requires
unfolding is_place
look_up-requires c = places high c.args.bytes _ c.fits-bytes.1 (high_is c.args.bytes c.fits-bytes) refl

pub look_up-requires-2 : goal.look_up-requires-2
unfolding is_place quotient
look_up-requires-2 c =
    let v = c.args.bytes in
    places (λ b. bit_xor (inverse_of (high b)) (quotient b)) v _ c.fits-bytes.1
    (zip2_of_maps bit_xor (λ b. inverse_of (high b)) quotient v
    (composed INVERSES high v c.look_up.ensures (high_is v c.fits-bytes))
    (composed QUOTIENTS low v c.look_up-quotient.ensures (low_is v c.fits-bytes)))
    refl

pub look_up-requires-3 : goal.look_up-requires-3
unfolding is_place sum
look_up-requires-3 c = places sum c.args.bytes _ c.fits-bytes.1 (sum_is c.args.bytes c.fits-bytes) refl

pub look_up-requires-4 : goal.look_up-requires-4
unfolding is_place sum quotient
look_up-requires-4 c =
    let v = c.args.bytes in
    places (λ b. bit_xor (inverse_of (sum b)) (quotient b)) v _ c.fits-bytes.1
    (zip2_of_maps bit_xor (λ b. inverse_of (sum b)) quotient v
    (composed INVERSES sum v c.look_up-3.ensures (sum_is v c.fits-bytes))
    (composed QUOTIENTS low v c.look_up-quotient.ensures (low_is v c.fits-bytes)))
    refl

pub returns-clause-first : goal.returns-clause-first
unfolding first_place quotient sum
returns-clause-first c =
    let v = c.args.bytes in
    zip2_of_maps bit_xor (λ b. inverse_of (bit_xor (inverse_of (high b)) (quotient b))) sum v
    (composed INVERSES (λ b. bit_xor (inverse_of (high b)) (quotient b)) v c.look_up-2.ensures
    (zip2_of_maps bit_xor (λ b. inverse_of (high b)) quotient v
    (composed INVERSES high v c.look_up.ensures (high_is v c.fits-bytes))
    (composed QUOTIENTS low v c.look_up-quotient.ensures (low_is v c.fits-bytes))))
    (sum_is v c.fits-bytes)

pub returns-clause-second : goal.returns-clause-second
unfolding second_place quotient sum
returns-clause-second c =
    let v = c.args.bytes in
    zip2_of_maps bit_xor (λ b. inverse_of (bit_xor (inverse_of (sum b)) (quotient b))) high v
    (composed INVERSES (λ b. bit_xor (inverse_of (sum b)) (quotient b)) v c.look_up-4.ensures
    (zip2_of_maps bit_xor (λ b. inverse_of (sum b)) quotient v
    (composed INVERSES sum v c.look_up-3.ensures (sum_is v c.fits-bytes))
    (composed QUOTIENTS low v c.look_up-quotient.ensures (low_is v c.fits-bytes))))
    (high_is v c.fits-bytes)
