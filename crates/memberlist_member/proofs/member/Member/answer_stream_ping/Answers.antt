use Rattle.memberlist_member.proofs.Carrying.{stays_over}
use Rattle.memberlist_member.proofs.member.Member.answer_stream_ping.Goals as goal

pub returns-clause-goes : goal.returns-clause-goes
returns-clause-goes g c told first word before = c.hang_up-2.ensures.goes told first word (c.answer.ensures.goes told first word before)

pub returns-clause-lines : goal.returns-clause-lines
returns-clause-lines g c conn came line = c.answer.ensures.lines conn came (c.hang_up-2.ensures.lines conn came line)

pub returns-clause-stays : goal.returns-clause-stays
returns-clause-stays g c = stays_over c.args.self.now c.answer.new.self c.hang_up-2.new.self c.answer.ensures.stays c.hang_up-2.ensures.stays
