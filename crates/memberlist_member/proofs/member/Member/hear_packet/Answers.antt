use Rattle.std.proofs.Common.{◌≡◌, OnOk, subst, sym}
use Rattle.memberlist_view.specs.Heard.{about}
use Rattle.memberlist_view.specs.Member.{member_view_after}
use Rattle.memberlist_member.specs.Showing.{IsGround}
use Rattle.memberlist_member.specs.Suspects.{GrowsByAtMost}
use Rattle.memberlist_member.proofs.member.Member.hear_packet.Goals as goal

pub returns-clause-goes : goal.returns-clause-goes
returns-clause-goes g c told ground first word before =
    c.hear_now.ensures.goes told (subst (IsGround told c.args.self.now) (sym c.in_ok-heard.ensures.said) ground) first word before

pub returns-clause-grows : goal.returns-clause-grows
returns-clause-grows g c =
    subst (λ s. GrowsByAtMost (about s) c.args.self.now.suspicions.list.items c.hear_now.new.self.suspicions.list.items)
    c.in_ok-heard.ensures.said c.hear_now.ensures.grows

pub returns-clause-step : goal.returns-clause-step
returns-clause-step g c =
    let m = c.args.self.now in
    let new = c.hear_now.new.self.view in
    subst (λ s. OnOk c.hear_now.result (new ≡ member_view_after m.view (record { time = m.time; said = s }))) c.in_ok-heard.ensures.said
    (subst (λ t. OnOk c.hear_now.result (new ≡ member_view_after m.view (record { time = t; said = c.in_ok-heard.heard.said })))
    c.in_ok-heard.ensures.time c.hear_now.ensures.step)
