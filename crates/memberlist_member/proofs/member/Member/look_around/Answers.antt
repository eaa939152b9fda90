use Rattle.memberlist_member.specs.Showing.{IsToldAnywhere}
use Rattle.memberlist_member.proofs.Showing.{same_probe, untold}
use Rattle.memberlist_member.proofs.Ticking.{anywhere_before}
use Rattle.memberlist_member.proofs.Carrying.{probe_over}
use Rattle.memberlist_member.proofs.member.Member.look_around.Goals as goal

pub returns-in_err-end_relays-clause-goes : goal.returns-in_err-end_relays-clause-goes
returns-in_err-end_relays-clause-goes g c =
    untold (IsToldAnywhere c.args.self.now) c.args.self.now c.end_relays.new.self c.end_relays.ensures.goes

pub returns-clause-goes : goal.returns-clause-goes
returns-clause-goes g c =
    let (told, each, goes) = c.look_again.ensures.goes in
    let (((time, settings, cover, name, rises), details, leaving, seeds), times) = c.end_relays.ensures.stays.0 in (
      told,
      anywhere_before c.args.self.now c.end_relays.new.self c.end_relays.ensures.lines cover name told each,
      λ first word before. goes first word (c.end_relays.ensures.goes told first word before),
    )

pub returns-clause-probes : goal.returns-clause-probes
returns-clause-probes g c seq name inc due probing =
    same_probe c.args.self.now c.end_relays.new.self c.end_relays.ensures.stays.1 seq name inc due
    (c.look_again.ensures.probes seq name inc due probing)

pub returns-clause-lines : goal.returns-clause-lines
returns-clause-lines g c conn came line = c.end_relays.ensures.lines conn came (c.look_again.ensures.lines conn came line)

pub returns-clause-stays : goal.returns-clause-stays
returns-clause-stays g c = probe_over c.args.self.now c.end_relays.new.self c.look_again.new.self c.end_relays.ensures.stays.0 c.look_again.ensures.stays
