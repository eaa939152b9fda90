use Rattle.std.proofs.Common.{◌≡◌, ◌<◌, ◌∙◌, refl, sym, ap, subst, get_or, set, length, arith}
use Rattle.std.proofs.lemmas.List.{length-map}
use Rattle.std.specs.Vec.{with_item}
use Rattle.tiered_vec.specs.Place.{Position}
use Rattle.tiered_vec.specs.Sound.{shape}
use Rattle.tiered_vec.specs.Tiers.{Tiers, IsPlace, items, index_of, with_item_at}
use Rattle.tiered_vec.proofs.Shapes.{block_read, shape-set}
use Rattle.tiered_vec.proofs.Flat.{placed, set_sound, flatten-set_at, room-with_item_at}
use Rattle.tiered_vec.proofs.tiered_vec.TieredVec.get_mut_at.Goals as goal

pub invariant_of-self-lent : goal.invariant_of-self-lent
invariant_of-self-lent g c = λ w.
    let bs = c.self.inside.blocks.items in
    let p : Position = record { block = c.place.inside.block; at = c.place.inside.at } in
    let here : IsPlace (shape bs) p =
    subst (λ v. IsPlace v.blocks p) (sym c.self.view_is) (subst (IsPlace c.args.self.now.blocks) (sym c.place.view_is) c.requires) in
    let h : p.block < length bs = omega (arith, length-map bs (λ b. b.items), here.in_block) in
    let read = block_read bs p.block c.index_mut-block.result.now h c.index_mut-block.ensures.value in
    set_sound c.self.inside.len c.self.inside.blocks c.self.inside.spares p.block p.at c.index_mut-block.result.now w
    c.self.invariant h c.index_mut-block.ensures.value (omega (arith, ap length read, here.in_range))

pub returns : goal.returns
unfolding index_of with_item_at
returns g c =
    let bs = c.self.inside.blocks.items in
    let s = shape bs in
    let ns = length c.self.inside.spares.items in
    let p : Position = record { block = c.place.inside.block; at = c.place.inside.at } in
    let here : IsPlace s p = subst (λ v. IsPlace v.blocks p) (sym c.self.view_is)
    (subst (IsPlace c.args.self.now.blocks) (sym c.place.view_is) c.requires) in
    let h : p.block < length bs = omega (arith, length-map bs (λ b. b.items), here.in_block) in
    let b = c.index_mut-block.result.now in
    let read = block_read bs p.block b h c.index_mut-block.ensures.value in
    let x = c.index_mut.result.now in
    let v : Tiers g.row.T.Denot = record { blocks = s; spares = ns } in (
      (
        refl,
        λ w. subst (λ u. record {
          blocks = shape (set bs p.block (with_item b p.at w));
          spares = ns;
        } ≡ with_item_at u c.args.place w) c.self.view_is
            (subst (λ q. record { blocks = shape (set bs p.block (with_item b p.at w)); spares = ns } ≡ with_item_at v q w) c.place.view_is
            (ap (λ (u : _). let t : Tiers g.row.T.Denot = record { blocks = u; spares = ns } in t)
            (shape-set bs p.block (with_item b p.at w) ∙ ap (λ xs. set s p.block (set xs p.at w)) read))),
      ),
      record {
        writes_back = tt;
        value = subst (λ u. x ≡ get_or (items u) (index_of u.blocks c.args.place) x) c.self.view_is
            (subst (λ q. x ≡ get_or (items v) (index_of s q) x) c.place.view_is
            (c.index_mut.ensures.value ∙ ap (λ l. get_or l p.at x) read ∙ sym (placed s p.block p.at x here.in_block here.in_range)));
        room = λ w. room-with_item_at c.args.self.now c.args.place w;
        set = λ w. subst (λ u. items (with_item_at u c.args.place w) ≡ set (items u) (index_of u.blocks c.args.place) w) c.self.view_is
            (subst (λ q. items (with_item_at v q w) ≡ set (items v) (index_of s q) w) c.place.view_is
            (flatten-set_at s p.block p.at w here.in_block here.in_range));
      },
    )
