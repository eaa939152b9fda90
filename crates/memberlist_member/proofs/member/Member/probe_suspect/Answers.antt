use Rattle.memberlist_member.proofs.Carrying.{probe_over}
use Rattle.memberlist_member.proofs.Showing.{in_time_then, same_probe}
use Rattle.memberlist_member.proofs.member.Member.probe_suspect.Goals as goal

pub returns-clause-stays : goal.returns-clause-stays
returns-clause-stays g c =
    probe_over c.args.self.now c.set_probe.new.self c.send_warning.new.self c.set_probe.ensures.stays c.send_warning.ensures.stays.0

pub returns-clause-probes : goal.returns-clause-probes
returns-clause-probes g c = in_time_then c.args.self.now c.set_probe.new.self c.send_warning.new.self c.set_probe.ensures.probes
    (same_probe c.set_probe.new.self c.send_warning.new.self c.send_warning.ensures.stays.1) c.send_warning.ensures.stays.0.0.0

pub returns-clause-goes : goal.returns-clause-goes
returns-clause-goes g c told first word before = c.send_warning.ensures.goes told first word (c.set_probe.ensures.goes told first word before)

pub returns-clause-lines : goal.returns-clause-lines
returns-clause-lines g c conn came line = c.set_probe.ensures.lines conn came (c.send_warning.ensures.lines conn came line)
