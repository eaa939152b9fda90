use Rattle.std.proofs.Common.{subst, sym, ◌∙◌}
use Rattle.memberlist_view.specs.Heard.{about}
use Rattle.memberlist_member.specs.Suspects.{GrowsByAtMost}
use Rattle.memberlist_member.proofs.Heeding.{always_ok}
use Rattle.memberlist_member.proofs.Carrying.{stays_over}
use Rattle.memberlist_member.proofs.member.Member.hear_now.Goals as goal

pub returns-clause-goes : goal.returns-clause-goes
returns-clause-goes g c told ground first word before =
    c.heed.ensures.goes told first word (c.take_in.ensures.goes told ground first word before)

pub returns-clause-step : goal.returns-clause-step
returns-clause-step g c = always_ok c.heed.result (c.heed.ensures.shown.0 ∙ c.in_ok-event.ensures.step)

pub returns-clause-grows : goal.returns-clause-grows
returns-clause-grows g c =
    subst (λ s. GrowsByAtMost (about c.args.heard.now.said) c.args.self.now.suspicions.list.items s.list.items) (sym c.heed.ensures.shown.1)
    c.take_in.ensures.grows

pub returns-clause-lines : goal.returns-clause-lines
returns-clause-lines g c conn came line = c.take_in.ensures.lines conn came (c.heed.ensures.lines conn came line)

pub returns-clause-stays : goal.returns-clause-stays
returns-clause-stays g c = stays_over c.args.self.now c.take_in.new.self c.heed.new.self c.take_in.ensures.stays c.heed.ensures.stays
