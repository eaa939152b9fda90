use Rattle.std.proofs.Common.{refl, arith}
use Rattle.memberlist_message.specs.Reading.{slot_at}
use Rattle.memberlist_message.proofs.Slotting.{slot_is, slots_after}
use Rattle.memberlist_message.proofs.fields.read_slot.Goals as goal

pub returns-clause-exact : goal.returns-clause-exact
unfolding slot_at
returns-clause-exact c =
    let first = c.index-values-place.is in
    let before = slot_is c.args.values.now c.args.place c.take-old.result
    (omega (arith, c.requires.long, c.requires.fits)) (cc (c.take-old.ensures.value, first)) in
    let after = slots_after c.args.values.now c.args.place c.take-old.new.self c.in_ok-value.value in
    rw (before, c.in_ok-value.ensures, after) refl
