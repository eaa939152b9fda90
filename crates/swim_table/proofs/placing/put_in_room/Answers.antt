use Rattle.std.proofs.Common.{◌∙◌, sym, ap, subst, set, arith}
use Rattle.tiered_vec.specs.Tiers.{items, index_of}
use Rattle.swim_table.specs.Join.{combined}
use Rattle.swim_table.specs.Place.{IsAt, IsGapFor}
use Rattle.swim_table.proofs.Place.{put-set, put-insert}
use Rattle.swim_table.proofs.placing.put_in_room.Goals as goal

-- the entry at the place of the name is the one that was written
pub returns-in-Ok-clause-items : goal.returns-in-Ok-clause-items
returns-in-Ok-clause-items c =
    let old = items c.args.entries.now in
    let i = index_of c.args.entries.now.blocks c.in-Ok.place in
    let at = subst (λ n. IsAt old n i) (c.bytes.ensures.bytes ∙ c.name.ensures) c.in-Ok.ensures.found in
    c.get_mut_at-entry.ensures.set c.combine.new.self
    ∙ ap (set old i) (c.combine.ensures ∙ ap (λ entry. combined entry c.args.other) c.get_mut_at-entry.ensures.value)
    ∙ sym (put-set old c.args.other i c.get_mut_at-entry.result.now c.requires.ascending at)

pub returns-in-Ok-clause-room : goal.returns-in-Ok-clause-room
returns-in-Ok-clause-room c = omega (arith, c.get_mut_at-entry.ensures.room c.combine.new.self)

pub returns-in-Ok-insert_at-clause-items : goal.returns-in-Ok-insert_at-clause-items
returns-in-Ok-insert_at-clause-items c =
    let old = items c.args.entries.now in
    let i = index_of c.args.entries.now.blocks c.in-Err.place in
    let gap = subst (λ n. IsGapFor old n i) (c.bytes.ensures.bytes ∙ c.name.ensures) c.in-Err.ensures.absent in
    c.in-Ok-insert_at.ensures.ok ∙ sym (put-insert old c.args.other i gap)
