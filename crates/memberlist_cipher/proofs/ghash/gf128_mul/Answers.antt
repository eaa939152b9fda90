use Rattle.std.proofs.Common.{ℕ, ◌<◌, ◌^◌, List, length, ap, ap₂, ◌∙◌, subst, arith}
use Rattle.memberlist_cipher.specs.Products.{planes_block, all_planes, planes_sum}
use Rattle.memberlist_cipher.proofs.Planes.{product_is, length-all_planes}
use Rattle.memberlist_cipher.proofs.ghash.gf128_mul.Goals as goal

pub unreduced-requires : goal.unreduced-requires
unreduced-requires c =
    ap length (c.deref.ensures.value ∙ c.ghash_key.invariant.0) ∙ length-all_planes (planes_block c.ghash_key.inside.planes.items)

pub returns : goal.returns
returns c =
    let x = c.args.x in
    let h = c.args.ghash_key.now in
    let small : x < 2 ^ 128 = omega arith in
    let below : h < 2 ^ 128 = subst (λ (n : ℕ). n < 2 ^ 128) c.ghash_key.view_is c.ghash_key.invariant.1 in
    c.reduced.ensures
    ∙ c.unreduced.ensures.value
    ∙ ap₂ (λ (planes bytes : List ℕ). planes_sum planes 16 0 bytes)
    (c.deref.ensures.value ∙ c.ghash_key.invariant.0
    ∙ ap all_planes c.ghash_key.view_is) c.bytes_of.ensures
    ∙ product_is h x below small
