use Rattle.std.proofs.Common.{ℕ, List, ◌++◌, ◌<◌, ◌^◌, sym, ap, ◌∙◌, subst, arith}
use Rattle.memberlist_cipher.specs.Products.{planes_of, planes_block, all_planes}
use Rattle.memberlist_cipher.proofs.Planes.{planes_block_is}
use Rattle.memberlist_cipher.proofs.ghash.GhashKey.new.Goals as goal

pub invariant_of-result : goal.invariant_of-result
unfolding all_planes
invariant_of-result c =
    let h = c.args.block in
    let small : h < 2 ^ 128 = omega arith in
    let items =
    c.append_planes-2.ensures.items
    ∙ ap (λ (o : List ℕ). o ++ planes_of c.times_x_4.result)
    (c.append_planes.ensures.items ∙ ap
    (λ (o : List ℕ). o ++ planes_of h) c.in_ok-planes.ensures.items)
    ∙ ap (λ (v : ℕ). planes_of h ++ planes_of v) c.times_x_4.ensures in
    let block = ap planes_block items ∙ planes_block_is h small in (
      items ∙ ap all_planes (sym block),
      subst (λ (n : ℕ). n < 2 ^ 128) (sym block) small,
      c.append_planes-2.ensures.in_place ∙ c.append_planes.ensures.in_place ∙ c.in_ok-planes.ensures.exact,
    )

pub returns : goal.returns
unfolding all_planes
returns c =
    let h = c.args.block in
    let small : h < 2 ^ 128 = omega arith in
    ap planes_block (c.append_planes-2.ensures.items
    ∙ ap (λ (o : List ℕ). o ++ planes_of c.times_x_4.result)
    (c.append_planes.ensures.items ∙ ap
    (λ (o : List ℕ). o ++ planes_of h) c.in_ok-planes.ensures.items)
    ∙ ap (λ (v : ℕ). planes_of h ++ planes_of v) c.times_x_4.ensures)
    ∙ planes_block_is h small
