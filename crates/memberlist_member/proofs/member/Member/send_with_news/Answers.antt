use Rattle.memberlist_member.proofs.Carrying.{stays_over}
use Rattle.memberlist_member.proofs.member.Member.send_with_news.Goals as goal

pub returns-clause-goes : goal.returns-clause-goes
returns-clause-goes g c told first word before = c.send.ensures.goes told first word (c.take_news.ensures.goes told first word before)

pub returns-clause-lines : goal.returns-clause-lines
returns-clause-lines g c conn came line = c.take_news.ensures.lines conn came (c.send.ensures.lines conn came line)

pub returns-clause-stays : goal.returns-clause-stays
returns-clause-stays g c = stays_over c.args.self.now c.take_news.new.self c.send.new.self c.take_news.ensures.stays c.send.ensures.stays
