use Rattle.memberlist_member.proofs.Showing.{same_probe}
use Rattle.memberlist_member.proofs.Carrying.{probe_over}
use Rattle.memberlist_member.proofs.member.Member.take_stream_ack.Goals as goal

pub returns-clause-probes : goal.returns-clause-probes
returns-clause-probes c seq name inc due probing =
    same_probe c.args.self.now c.hang_up.new.self c.hang_up.ensures.stays.1 seq name inc due
    (c.answer_probe.ensures.probes seq name inc due probing)

pub returns-clause-goes : goal.returns-clause-goes
returns-clause-goes c told first word before = c.answer_probe.ensures.goes told first word (c.hang_up.ensures.goes told first word before)

pub returns-clause-lines : goal.returns-clause-lines
returns-clause-lines c conn came line = c.hang_up.ensures.lines conn came (c.answer_probe.ensures.lines conn came line)

pub returns-clause-stays : goal.returns-clause-stays
returns-clause-stays c = probe_over c.args.self.now c.hang_up.new.self c.answer_probe.new.self c.hang_up.ensures.stays.0 c.answer_probe.ensures.stays
