use Rattle.std.proofs.Common.{subst, sym}
use Rattle.serf_message.specs.declared.state.StatusTime.{StatusTime}
use Rattle.serf_message.specs.States.{status_value, IsShortStatus}
use Rattle.serf_message.proofs.SpelledSteps.{each_seen}
use Rattle.serf_message.proofs.write_state.write_each_status.Goals as goal

pub write_status-requires : goal.write_status-requires
write_status-requires c =
    let fits = each_seen IsShortStatus status_value c.args.list.now c.loop-status.status-index
    c.status-item.result c.requires c.loop-status-test.true in
    subst (λ (x : StatusTime). IsShortStatus (status_value x)) (sym c.status-item.is) fits
