use Rattle.std.proofs.Common.{ap, true, subst, sym, ◌∙◌}
use Rattle.std.specs.List.{Contains}
use Rattle.swim_claim.specs.declared.claim.Claim.TheVariants.{Suspect}
use Rattle.memberlist_member.specs.Claims.{packet_of}
use Rattle.memberlist_member.specs.Saying.{said_of}
use Rattle.memberlist_member.specs.Showing.HasGround.{is_told}
use Rattle.memberlist_member.proofs.Carrying.{stays_over}
use Rattle.memberlist_member.proofs.member.Member.suspect_probed.Goals as goal

pub returns-clause-goes : goal.returns-clause-goes
returns-clause-goes g c told among first word before =
    let (((time, settings, cover, name, rises), details, leaving, seeds), times) = c.show_unanswered.ensures.stays.0 in
    let says = c.in_ok-packet.ensures ∙ ap (λ n. packet_of (Suspect c.args.probe.now.name c.args.probe.now.inc) n) name in
    c.hear.ensures.goes told (is_told (subst (Contains told) (ap (λ p. said_of p true) (sym says)) among))
    first word (c.show_unanswered.ensures.goes told first word before)

pub returns-clause-lines : goal.returns-clause-lines
returns-clause-lines g c conn came line = c.show_unanswered.ensures.lines conn came (c.hear.ensures.lines conn came line)

pub returns-clause-stays : goal.returns-clause-stays
returns-clause-stays g c =
    stays_over c.args.self.now c.show_unanswered.new.self c.hear.new.self c.show_unanswered.ensures.stays c.hear.ensures.stays
