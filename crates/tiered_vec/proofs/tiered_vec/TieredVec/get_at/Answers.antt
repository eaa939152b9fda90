use Rattle.std.proofs.Common.{◌≡◌, ◌∙◌, sym, ap, subst, get_or, arith}
use Rattle.std.proofs.lemmas.List.{length-map}
use Rattle.tiered_vec.specs.Place.{Position}
use Rattle.tiered_vec.specs.Sound.{shape}
use Rattle.tiered_vec.specs.Tiers.{IsPlace, items, index_of}
use Rattle.tiered_vec.proofs.Shapes.{block_read}
use Rattle.tiered_vec.proofs.Flat.{placed}
use Rattle.tiered_vec.proofs.tiered_vec.TieredVec.get_at.Goals as goal

pub returns : goal.returns
unfolding index_of
returns g c =
    let bs = c.self.inside.blocks.items in
    let s = shape bs in
    let p : Position = record { block = c.place.inside.block; at = c.place.inside.at } in
    let x = c.index.result.now in
    let here : IsPlace s p = subst (λ v. IsPlace v.blocks p) (sym c.self.view_is)
    (subst (IsPlace c.args.self.now.blocks) (sym c.place.view_is) c.requires) in
    let read = block_read bs p.block c.index-block.result.now
    (omega (arith, length-map bs (λ b. b.items), here.in_block)) c.index-block.ensures in
    subst (λ v. x ≡ get_or (items v) (index_of v.blocks c.args.place) x) c.self.view_is
    (subst (λ q. x ≡ get_or (items {T = g.row.T.Denot} (record { blocks = s; spares = 0 })) (index_of s q) x) c.place.view_is
    (c.index.ensures ∙ ap (λ b. get_or b p.at x) read ∙ sym (placed s p.block p.at x here.in_block here.in_range)))
