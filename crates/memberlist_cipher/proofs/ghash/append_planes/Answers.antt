use Rattle.std.proofs.Common.{◌≡◌, ℕ, ◌-◌, ◌*◌, ◌/◌, ◌%◌, ◌^◌, List, [], ◌∷◌, ◌++◌, map, sym, ap, ap₂, ◌∙◌, arith, append_assoc}
use Rattle.std.specs.List.{range_with_len}
use Rattle.std.proofs.lemmas.List.FromFn.{map-range_with_len_more}
use Rattle.memberlist_cipher.specs.Products.{plane_byte, planes_of}
use Rattle.memberlist_cipher.proofs.ghash.append_planes.Goals as goal

pub loop-at-preserved : goal.loop-at-preserved
unfolding plane_byte
loop-at-preserved c =
    let v = c.args.v in
    let at = c.loop-at.at in
    let old = c.args.planes.now.items in
    let value = ap (λ (n : ℕ). n / 2 ^ (120 - 8 * (at / 16)) % 256) c.times_digit-product.ensures in
    record {
      items =
          c.push_reserved.ensures.items
          ∙ ap₂ (λ (o : List ℕ) (n : ℕ). o ++ n ∷ []) c.loop-at.invariant.items value
          ∙ append_assoc old (map (plane_byte v) (range_with_len 0 at)) (plane_byte v at ∷ [])
          ∙ ap (λ (l : List ℕ). old ++ l) (sym (map-range_with_len_more (plane_byte v) 0 at at (omega arith)));
      len = omega (arith, c.push_reserved.ensures.len, c.loop-at.invariant.len);
      capacity = c.push_reserved.ensures.capacity ∙ c.loop-at.invariant.capacity;
    }

pub returns-clause-items : goal.returns-clause-items
unfolding planes_of
returns-clause-items c =
    let all : c.loop-at.at ≡ 256 = omega arith in
    c.loop-at.invariant.items ∙ ap (λ (n : ℕ). c.args.planes.now.items ++ map (plane_byte c.args.v) (range_with_len 0 n)) all
