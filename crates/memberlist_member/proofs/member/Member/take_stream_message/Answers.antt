use Rattle.memberlist_member.proofs.Showing.{same_probe}
use Rattle.memberlist_member.proofs.Carrying.{probe_over}
use Rattle.memberlist_member.proofs.member.Member.take_stream_message.Goals as goal

pub returns-clause-goes : goal.returns-clause-goes
returns-clause-goes g c told first word before = c.hang_up-in-Err.ensures.goes told first word (c.refuse.ensures.goes told first word before)

pub returns-clause-probes : goal.returns-clause-probes
returns-clause-probes g c seq name inc due probing =
    same_probe c.args.self.now c.refuse.new.self c.refuse.ensures.stays.1 seq name inc due
    (same_probe c.refuse.new.self c.hang_up-in-Err.new.self c.hang_up-in-Err.ensures.stays.1 seq name inc due probing)

pub returns-clause-lines : goal.returns-clause-lines
returns-clause-lines g c conn came line = c.refuse.ensures.lines conn came (c.hang_up-in-Err.ensures.lines conn came line)

pub returns-clause-stays : goal.returns-clause-stays
returns-clause-stays g c = probe_over c.args.self.now c.refuse.new.self c.hang_up-in-Err.new.self c.refuse.ensures.stays.0 c.hang_up-in-Err.ensures.stays.0
