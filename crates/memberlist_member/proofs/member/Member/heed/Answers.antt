use Rattle.memberlist_member.proofs.Carrying.{stays_over}
use Rattle.memberlist_member.proofs.member.Member.heed.Goals as goal

pub returns-in_err-tell_on-clause-goes : goal.returns-in_err-tell_on-clause-goes
returns-in_err-tell_on-clause-goes g c told first word before = c.tell_on.ensures.goes told first word (c.follow.ensures.goes told first word before)

pub returns-in_err-tell_on-clause-lines : goal.returns-in_err-tell_on-clause-lines
returns-in_err-tell_on-clause-lines g c conn came line = c.follow.ensures.lines conn came (c.tell_on.ensures.lines conn came line)

pub returns-in_err-tell_on-clause-stays : goal.returns-in_err-tell_on-clause-stays
returns-in_err-tell_on-clause-stays g c = stays_over c.args.self.now c.follow.new.self c.tell_on.new.self c.follow.ensures.stays c.tell_on.ensures.stays

pub returns-clause-goes : goal.returns-clause-goes
returns-clause-goes g c told first word before = c.show.ensures.goes told first word (c.tell_on.ensures.goes told first word (c.follow.ensures.goes told first word before))

pub returns-clause-lines : goal.returns-clause-lines
returns-clause-lines g c conn came line = c.follow.ensures.lines conn came (c.tell_on.ensures.lines conn came (c.show.ensures.lines conn came line))

pub returns-clause-stays : goal.returns-clause-stays
returns-clause-stays g c = stays_over c.args.self.now c.tell_on.new.self c.show.new.self (stays_over c.args.self.now c.follow.new.self c.tell_on.new.self c.follow.ensures.stays c.tell_on.ensures.stays) c.show.ensures.stays
