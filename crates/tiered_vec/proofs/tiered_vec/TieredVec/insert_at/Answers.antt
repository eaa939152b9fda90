use Rattle.std.proofs.Common.{◌≡◌, ◌≤◌, ◌+◌, ◌∙◌, sym, ap, subst, length, arith, All}
use Rattle.std.specs.List.{insert}
use Rattle.std.proofs.lemmas.List.{length-map}
use Rattle.std.proofs.lemmas.List.Edits.{length-insert}
use Rattle.tiered_vec.specs.Place.{Position}
use Rattle.tiered_vec.specs.Sound.{shape}
use Rattle.tiered_vec.specs.Tiers.{Tiers, IsGap, IsBlock, IsOpened, flatten, items, index_of, room}
use Rattle.tiered_vec.proofs.Flat.{length-flatten, put_flatten, put_each, put_load, index_in_gap, room_left}
use Rattle.tiered_vec.proofs.tiered_vec.TieredVec.insert_at.Goals as goal

pub overflow_add-self : goal.overflow_add-self
overflow_add-self g c =
    let bs = c.self.inside.blocks.items in
    let i = c.self.invariant in
    omega (arith, length-flatten (shape bs) i.each, length-map bs (λ b. b.items), i.vectors.few, i.count)

pub invariant_of-self : goal.invariant_of-self
invariant_of-self g c =
    let s = shape c.self.inside.blocks.items in
    let t = shape c.open.new.blocks.items in
    let p : Position = record { block = c.at.inside.block; at = c.at.inside.at } in
    let o : IsOpened s t (index_of s c.args.place) p = subst (IsOpened s t (index_of s c.args.place))
    (sym c.at.view_is) c.in-Ok.ensures.ok in
    let rooms = c.in-Ok.ensures.rooms in
    let gap = subst (λ v. IsGap v.blocks c.args.place) (sym c.self.view_is) c.requires in
    let more = ap length (ap flatten c.put.ensures.shape ∙ put_flatten s t (index_of s c.args.place) p c.args.x o) in
    record {
      vectors =
          record {
            rooms = c.put.ensures.rooms;
            empties = rooms.empties;
            places = omega (arith, c.put.ensures.len, c.put.ensures.capacity, rooms.places);
            spare_places = omega (arith, c.put.ensures.len, rooms.spare_places);
            few = omega (arith, c.put.ensures.len, rooms.few);
          };
      each = subst (All IsBlock) (sym c.put.ensures.shape) (put_each s t (index_of s c.args.place) p c.args.x o);
      count = omega (
        arith,
        more,
        length-insert (flatten s) (index_of s c.args.place) c.args.x
            (index_in_gap s c.args.place gap),
        c.self.invariant.count,
      );
    }

pub returns-in-Ok-clause-ok : goal.returns-in-Ok-clause-ok
returns-in-Ok-clause-ok g c =
    let s = shape c.self.inside.blocks.items in
    let t = shape c.open.new.blocks.items in
    let p : Position = record { block = c.at.inside.block; at = c.at.inside.at } in
    let o : IsOpened s t (index_of s c.args.place) p = subst (IsOpened s t (index_of s c.args.place))
    (sym c.at.view_is) c.in-Ok.ensures.ok in
    subst (λ v. flatten (shape c.put.new.blocks.items) ≡ insert (items v) (index_of v.blocks c.args.place) c.args.x) c.self.view_is
    (ap flatten c.put.ensures.shape ∙ put_flatten s t (index_of s c.args.place) p c.args.x o)

pub returns-in-Ok-clause-room : goal.returns-in-Ok-clause-room
unfolding room
returns-in-Ok-clause-room g c =
    let s = shape c.self.inside.blocks.items in
    let t = shape c.open.new.blocks.items in
    let p : Position = record { block = c.at.inside.block; at = c.at.inside.at } in
    let o : IsOpened s t (index_of s c.args.place) p = subst (IsOpened s t (index_of s c.args.place))
    (sym c.at.view_is) c.in-Ok.ensures.ok in
    let new : Tiers g.row.T.Denot = record { blocks = shape c.put.new.blocks.items; spares = length c.open.new.spares.items } in
    subst (λ v. room v ≤ room new + 1) c.self.view_is
    (subst (λ u. room (record { blocks = s; spares = length c.self.inside.spares.items })
    ≤ room (record { blocks = u; spares = length c.open.new.spares.items }) + 1) (sym c.put.ensures.shape)
    (room_left _ _ _ _ _ c.in-Ok.ensures.room (put_load s t (index_of s c.args.place) p c.args.x o) c.in-Ok.ensures.spares))
