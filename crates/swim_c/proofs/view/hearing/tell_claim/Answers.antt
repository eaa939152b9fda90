use Rattle.std.proofs.Common.{subst}
use Rattle.memberlist_view.specs.declared.heard.Said.{Said}
use Rattle.swim_c.specs.Views.{HearDone}
use Rattle.swim_c.proofs.view.hearing.tell_claim.Goals as goal

pub returns-in-Ok : goal.returns-in-Ok
returns-in-Ok c =
    subst (λ (s : Said). HearDone (record { time = c.args.time; said = s }) c.hear.result.status c.hear.result.event
    c.args.view.now c.hear.new.view c.args.member.now c.hear.new.member) c.in-Ok.ensures c.hear.ensures
