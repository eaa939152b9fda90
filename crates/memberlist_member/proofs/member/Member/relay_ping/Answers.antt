use Rattle.memberlist_member.proofs.Carrying.{stays_over}
use Rattle.memberlist_member.proofs.member.Member.relay_ping.Goals as goal

pub returns-clause-goes : goal.returns-clause-goes
returns-clause-goes g c told first word before = c.send_with_news.ensures.goes told first word (c.next_seq-seq.ensures.goes told first word before)

pub returns-clause-lines : goal.returns-clause-lines
returns-clause-lines g c conn came line = c.next_seq-seq.ensures.lines conn came (c.send_with_news.ensures.lines conn came line)

pub returns-clause-stays : goal.returns-clause-stays
returns-clause-stays g c = stays_over c.args.self.now c.next_seq-seq.new.self c.send_with_news.new.self c.next_seq-seq.ensures.stays c.send_with_news.ensures.stays
