use Rattle.std.proofs.Common.{inl, inr}
use Rattle.memberlist_member.proofs.Showing.{same_probe}
use Rattle.memberlist_member.proofs.Carrying.{probe_over}
use Rattle.memberlist_member.proofs.member.Member.begin_probe.Goals as goal

pub returns-in-Some-clause-probes : goal.returns-in-Some-clause-probes
returns-in-Some-clause-probes g c seq name inc due probing =
    elim (c.probe_member.ensures.probes seq name inc due probing) [
      | inl was ↦ inl (same_probe c.args.self.now c.next_to_probe.new.self c.next_to_probe.ensures.stays.1 seq name inc due was)
      | inr long ↦ inr long
    ]

pub returns-in-Some-clause-goes : goal.returns-in-Some-clause-goes
returns-in-Some-clause-goes g c told first word before = c.probe_member.ensures.goes told first word (c.next_to_probe.ensures.goes told first word before)

pub returns-in-Some-clause-lines : goal.returns-in-Some-clause-lines
returns-in-Some-clause-lines g c conn came line = c.next_to_probe.ensures.lines conn came (c.probe_member.ensures.lines conn came line)

pub returns-in-Some-clause-stays : goal.returns-in-Some-clause-stays
returns-in-Some-clause-stays g c = probe_over c.args.self.now c.next_to_probe.new.self c.probe_member.new.self c.next_to_probe.ensures.stays.0 c.probe_member.ensures.stays
