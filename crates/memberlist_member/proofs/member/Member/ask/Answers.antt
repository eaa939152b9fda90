use Rattle.memberlist_member.proofs.Showing.{same_probe}
use Rattle.memberlist_member.proofs.Carrying.{probe_over}
use Rattle.memberlist_member.proofs.member.Member.ask.Goals as goal

pub returns-clause-goes : goal.returns-clause-goes
returns-clause-goes g c told first word before = c.send_with_news.ensures.goes told first word (c.note_asked.ensures.goes told first word before)

pub returns-clause-lines : goal.returns-clause-lines
returns-clause-lines g c conn came line = c.note_asked.ensures.lines conn came (c.send_with_news.ensures.lines conn came line)

pub returns-clause-stays : goal.returns-clause-stays
returns-clause-stays g c = probe_over c.args.self.now c.note_asked.new.self c.send_with_news.new.self c.note_asked.ensures.stays c.send_with_news.ensures.stays.0

pub returns-clause-probes : goal.returns-clause-probes
returns-clause-probes g c seq name inc due probing = c.note_asked.ensures.probes seq name inc due
    (same_probe c.note_asked.new.self c.send_with_news.new.self c.send_with_news.ensures.stays.1 seq name inc due probing)
