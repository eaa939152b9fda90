use Rattle.std.proofs.Common.{◌≡◌, Some, ap, false, rules, subst, sym, true, ◌∙◌}
use Rattle.memberlist_view.specs.Heard.{about}
use Rattle.memberlist_view.specs.Member.{member_view_after}
use Rattle.memberlist_view.specs.Told.{entry_of}
use Rattle.memberlist_member.specs.Saying.{said_of}
use Rattle.memberlist_member.specs.Showing.{IsGround}
use Rattle.memberlist_member.specs.Showing.HasGround.{is_over}
use Rattle.memberlist_member.specs.Suspects.{GrowsByAtMost, shows_suspect}
use Rattle.memberlist_member.proofs.Heeding.{on_ok}
use Rattle.memberlist_member.proofs.Showing.{about_death, for_long}
use Rattle.memberlist_member.proofs.Watching.{dead_is_hidden}
use Rattle.memberlist_member.proofs.member.Member.declare_dead.Goals as goal

pub returns-clause-goes : goal.returns-clause-goes
returns-clause-goes g c told first word before =
    let m = c.args.self.now in
    let entry = c.in-Some.entry.now in
    let shown : entry_of m.view c.args.name.now ≡ Some entry = search rules in
    let long = for_long m c.args.name.now entry c.in-Suspect.by shown c.in-Suspect.is c.requires.over in
    c.hear_packet.ensures.goes told (subst (λ p. IsGround told m (said_of p true)) (sym c.in_ok-packet.ensures.says)
    (is_over c.args.name.now entry.inc long)) first word before

pub returns-clause-grows : goal.returns-clause-grows
returns-clause-grows g c =
    subst (λ n. GrowsByAtMost n c.args.self.now.suspicions.list.items c.hear_packet.new.self.suspicions.list.items)
    (ap (λ p. about (said_of p true)) c.in_ok-packet.ensures.says
    ∙ about_death c.args.name.now c.in-Some.entry.now.inc c.args.self.now.own.name) c.hear_packet.ensures.grows

pub returns-clause-ends : goal.returns-clause-ends
returns-clause-ends g c =
    let m = c.args.self.now in
    let name = c.args.name.now in
    let entry = c.in-Some.entry.now in
    let shown : entry_of m.view name ≡ Some entry = search rules in
    let hidden = dead_is_hidden m.view name m.own.name m.time entry c.in-Suspect.by shown c.in-Suspect.is c.in_ok-packet.ensures.named in
    on_ok c.hear_packet.result (λ step.
    subst (λ v. shows_suspect v name ≡ false)
    (sym (step ∙ ap (λ p. member_view_after m.view (record { time = m.time; said = said_of p true })) c.in_ok-packet.ensures.says))
    hidden) c.hear_packet.ensures.step
