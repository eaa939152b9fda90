use Rattle.std.proofs.Common.{◌≤◌, max, sym, subst, Result, Ok, Err, OnOk, length, arith}
use Rattle.std.proofs.lemmas.List.{length-map}
use Rattle.tiered_vec.specs.Sound.{shape}
use Rattle.tiered_vec.specs.Tiers.{load, cut_room, room}
use Rattle.tiered_vec.proofs.Flat.{load-most, room_enough}
use Rattle.tiered_vec.proofs.tiered_vec.TieredVec.reserve.Goals as goal

on_ok : {A E P Q : Type 0} (r : Result A E) → OnOk r P → (P → Q) → OnOk r Q
on_ok (Ok a) p f = f p
on_ok (Err e) p f = tt

pub returns-clause-room : goal.returns-clause-room
unfolding room
returns-clause-room g c =
    let bs = c.self.inside.blocks.items in
    let s = shape bs in
    let n = c.args.n in
    let ns = length c.make_spares.new.spares.items in
    on_ok c.make_spares.result c.make_spares.ensures.ok (λ enough.
    subst (λ l. n ≤ max ns (cut_room (shape l) ns)) (sym c.make_spares.ensures.items)
    (room_enough n ns (load s) (length s) (load-most s c.self.invariant.each)
    (omega (arith, enough, c.min.ensures, c.len.ensures, c.self.inside.blocks.ok.0, length-map bs (λ b. b.items)))))
