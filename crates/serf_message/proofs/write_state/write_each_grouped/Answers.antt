use Rattle.std.proofs.Common.{subst, sym}
use Rattle.serf_message.specs.declared.state.GroupedEvent.{GroupedEvent}
use Rattle.serf_message.specs.States.{grouped_value, IsShortGrouped}
use Rattle.serf_message.proofs.SpelledSteps.{each_seen}
use Rattle.serf_message.proofs.write_state.write_each_grouped.Goals as goal

pub write_grouped-requires : goal.write_grouped-requires
write_grouped-requires c =
    let fits = each_seen IsShortGrouped grouped_value c.args.list.now c.loop-event.event-index
    c.event-item.result c.requires c.loop-event-test.true in
    subst (λ (x : GroupedEvent). IsShortGrouped (grouped_value x)) (sym c.event-item.is) fits
