use Rattle.std.proofs.Common.{◌≡◌, ◌++◌, ◌∷◌, [], ◌∙◌, sym, ap, subst, length, arith, All}
use Rattle.std.proofs.lemmas.List.{length-map}
use Rattle.std.proofs.lemmas.List.Edits.{length-insert, insert_end}
use Rattle.tiered_vec.specs.Place.{Position}
use Rattle.tiered_vec.specs.Sound.{shape}
use Rattle.tiered_vec.specs.Tiers.{IsBlock, IsOpened, flatten, items}
use Rattle.tiered_vec.proofs.Flat.{length-flatten, put_flatten, put_each}
use Rattle.tiered_vec.proofs.tiered_vec.TieredVec.push.Goals as goal

pub overflow_add-self : goal.overflow_add-self
overflow_add-self g c =
    let bs = c.self.inside.blocks.items in
    let i = c.self.invariant in
    omega (arith, length-flatten (shape bs) i.each, length-map bs (λ b. b.items), i.vectors.few, i.count)

pub invariant_of-self : goal.invariant_of-self
invariant_of-self g c =
    let s = shape c.self.inside.blocks.items in
    let t = shape c.open_end.new.blocks.items in
    let p : Position = record { block = c.at.inside.block; at = c.at.inside.at } in
    let o : IsOpened s t (length (flatten s)) p = subst (IsOpened s t (length (flatten s))) (sym c.at.view_is) c.in-Ok.ensures.ok in
    let rooms = c.in-Ok.ensures.rooms in
    let more = ap length (ap flatten c.put.ensures.shape ∙ put_flatten s t (length (flatten s)) p c.args.x o) in
    record {
      vectors =
          record {
            rooms = c.put.ensures.rooms;
            empties = rooms.empties;
            places = omega (arith, c.put.ensures.len, c.put.ensures.capacity, rooms.places);
            spare_places = omega (arith, c.put.ensures.len, rooms.spare_places);
            few = omega (arith, c.put.ensures.len, rooms.few);
          };
      each = subst (All IsBlock) (sym c.put.ensures.shape) (put_each s t (length (flatten s)) p c.args.x o);
      count = omega (arith, more, length-insert (flatten s) (length (flatten s)) c.args.x (omega arith), c.self.invariant.count);
    }

pub returns-in-Ok-clause-ok : goal.returns-in-Ok-clause-ok
returns-in-Ok-clause-ok g c =
    let s = shape c.self.inside.blocks.items in
    let t = shape c.open_end.new.blocks.items in
    let p : Position = record { block = c.at.inside.block; at = c.at.inside.at } in
    let o : IsOpened s t (length (flatten s)) p = subst (IsOpened s t (length (flatten s))) (sym c.at.view_is) c.in-Ok.ensures.ok in
    subst (λ v. flatten (shape c.put.new.blocks.items) ≡ items v ++ c.args.x ∷ []) c.self.view_is
    (ap flatten c.put.ensures.shape ∙ put_flatten s t (length (flatten s)) p c.args.x o ∙ insert_end (flatten s) c.args.x)
