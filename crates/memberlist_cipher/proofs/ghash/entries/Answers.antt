use Rattle.std.proofs.Common.{ℕ, ◌+◌, ◌*◌, length, get_or, refl, ap, ◌∙◌, arith, bit_xor}
use Rattle.std.proofs.lemmas.List.{length-map}
use Rattle.std.proofs.lemmas.Nat.{and_le_r, and_mask}
use Rattle.std.proofs.lemmas.Simd.{zip2_of_maps}
use Rattle.memberlist_cipher.specs.Tower.{is_place}
use Rattle.memberlist_cipher.specs.Products.{entry}
use Rattle.memberlist_cipher.proofs.Lanes.{places, swizzles, high, low, high_is, low_is, map_bytes, entries_from}
use Rattle.memberlist_cipher.proofs.ghash.entries.Goals as goal

pub swizzle : goal.swizzle
unfolding is_place
swizzle c =
    let v = c.args.block in
    let is = high_is v c.fits-block in
    swizzles _ (ap length is ∙ length-map v high ∙ c.fits-block.0) (places high v _ c.fits-block.1 is refl)

pub swizzle-2 : goal.swizzle-2
unfolding is_place
swizzle-2 c =
    let v = c.args.block in
    let is = low_is v c.fits-block in
    swizzles _ (ap length is ∙ length-map v low ∙ c.fits-block.0) (places low v _ c.fits-block.1 is refl)

pub returns : goal.returns
unfolding entry
returns c =
    let v = c.args.block in
    let planes = c.args.planes.now in
    let k = 16 * c.args.plane in
    zip2_of_maps bit_xor (λ b. get_or planes (k + high b) 0) (λ b. get_or planes (256 + k + low b) 0) v
    (entries_from planes k high v _ c.fits-block (high_is v c.fits-block) (λ b hb. omega arith) (omega (arith, c.requires.size)))
    (entries_from planes (256 + k) low v _ c.fits-block (low_is v c.fits-block)
    (λ b hb. omega (arith, and_le_r b 15)) (omega (arith, c.requires.size)))
    ∙ map_bytes (λ b. bit_xor (get_or planes (k + high b) 0) (get_or planes (256 + k + low b) 0)) (entry planes c.args.plane) v
    (λ b hb. ap (λ (d : ℕ). bit_xor (get_or planes (k + high b) 0) (get_or planes (256 + k + d) 0)) (and_mask b 4)) c.fits-block.1
