use Rattle.std.proofs.Common.{◌≡◌, ◌<◌, ◌∙◌, sym, ap, subst, length, get_or, rules, arith}
use borrow.Author.Tests.{eqb-true, eqb-false}
use Rattle.std.specs.List.{remove}
use Rattle.std.proofs.lemmas.List.{length-map}
use Rattle.tiered_vec.specs.Place.{Position}
use Rattle.tiered_vec.specs.Sound.{shape}
use Rattle.tiered_vec.specs.Tiers.{IsPlace, flatten, index_of}
use Rattle.tiered_vec.proofs.Shapes.{block_read}
use Rattle.tiered_vec.proofs.Flat.{placed}
use Rattle.tiered_vec.proofs.Removing.{block_stays, block_spared}
use Rattle.tiered_vec.proofs.blocks.take_out.Goals as goal

pub returns-then-not-is_empty : goal.returns-then-not-is_empty
unfolding index_of
returns-then-not-is_empty g c =
    let s = shape c.args.blocks.now.items in
    let bs = c.take_from-x.new.blocks.items in
    let p : Position = record { block = c.place.inside.block; at = c.place.inside.at } in
    let x = c.take_from-x.result in
    let here : IsPlace s p = subst (IsPlace s) (sym c.place.view_is) c.requires.place in
    let within : p.block < length bs = omega (
      arith,
      here.in_block,
      c.take_from-x.ensures.len,
      length-map c.args.blocks.now.items (λ b. b.items),
    ) in
    let read = ap length (block_read bs p.block c.index.result.now within c.index.ensures) in
    let some = eqb-false c.index.result.now.len 0 (sym c.is_empty.ensures ∙ c.if-not-is_empty.true) in
    let out =
    block_stays s (shape bs) p.block p.at here.in_block here.in_range c.requires.each c.take_from-x.ensures.shape
    (length c.args.spares.now.items) (omega (arith, read, some, c.index.result.now.ok.0)) in
    record {
      value = subst (λ q. x ≡ get_or (flatten s) (index_of s q) x) c.place.view_is
          (c.take_from-x.ensures.value ∙ sym (placed s p.block p.at x here.in_block here.in_range));
      items = subst (λ q. flatten (shape bs) ≡ remove (flatten s) (index_of s q)) c.place.view_is out.items;
      rooms = search rules;
      each = out.each;
      spares = omega arith;
      room = out.room;
      end_room = out.end_room;
    }

pub returns : goal.returns
unfolding index_of
returns g c =
    let s = shape c.args.blocks.now.items in
    let bs = c.take_from-x.new.blocks.items in
    let t = shape c.spare_block.new.blocks.items in
    let p : Position = record { block = c.place.inside.block; at = c.place.inside.at } in
    let x = c.take_from-x.result in
    let here : IsPlace s p = subst (IsPlace s) (sym c.place.view_is) c.requires.place in
    let within : p.block < length bs = omega (
      arith,
      here.in_block,
      c.take_from-x.ensures.len,
      length-map c.args.blocks.now.items (λ b. b.items),
    ) in
    let read = ap length (block_read bs p.block c.index.result.now within c.index.ensures) in
    let none = eqb-true c.index.result.now.len 0 (sym c.is_empty.ensures ∙ c.if-not-is_empty.false) in
    let out =
    block_spared s (shape bs) p.block p.at here.in_block here.in_range c.requires.each c.take_from-x.ensures.shape t
    (length c.args.spares.now.items) (length c.spare_block.new.spares.items) (omega (arith, read, none, c.index.result.now.ok.0))
    c.spare_block.ensures.shape c.spare_block.ensures.spares in
    record {
      value = subst (λ q. x ≡ get_or (flatten s) (index_of s q) x) c.place.view_is
          (c.take_from-x.ensures.value ∙ sym (placed s p.block p.at x here.in_block here.in_range));
      items = subst (λ q. flatten t ≡ remove (flatten s) (index_of s q)) c.place.view_is out.items;
      rooms = c.spare_block.ensures.rooms;
      each = out.each;
      spares = omega (arith, c.spare_block.ensures.spares);
      room = out.room;
      end_room = out.end_room;
    }
