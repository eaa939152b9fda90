use Rattle.std.proofs.Common.{subst, sym}
use Rattle.std.proofs.Common.{Option}
use Rattle.serf_message.specs.declared.state.EventGroup.{EventGroup}
use Rattle.serf_message.specs.States.{place_value, IsShortPlace}
use Rattle.serf_message.proofs.SpelledSteps.{each_seen}
use Rattle.serf_message.proofs.write_state.write_each_place.Goals as goal

pub write_place-requires : goal.write_place-requires
write_place-requires c =
    let fits = each_seen IsShortPlace place_value c.args.list.now c.loop-place.place-index
    c.place-item.result c.requires c.loop-place-test.true in
    subst (λ (x : Option EventGroup). IsShortPlace (place_value x)) (sym c.place-item.is) fits
