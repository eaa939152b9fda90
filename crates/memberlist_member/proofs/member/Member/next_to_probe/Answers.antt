use Rattle.memberlist_member.proofs.Carrying.{stays_over}
use Rattle.memberlist_member.proofs.member.Member.next_to_probe.Goals as goal

pub returns-in_err-begin_round-clause-goes : goal.returns-in_err-begin_round-clause-goes
returns-in_err-begin_round-clause-goes g c told first word before = c.begin_round.ensures.goes told first word (c.next_in_round.ensures.goes told first word before)

pub returns-in_err-begin_round-clause-lines : goal.returns-in_err-begin_round-clause-lines
returns-in_err-begin_round-clause-lines g c conn came line = c.next_in_round.ensures.lines conn came (c.begin_round.ensures.lines conn came line)

pub returns-in_err-begin_round-clause-stays : goal.returns-in_err-begin_round-clause-stays
returns-in_err-begin_round-clause-stays g c = stays_over c.args.self.now c.next_in_round.new.self c.begin_round.new.self c.next_in_round.ensures.stays c.begin_round.ensures.stays

pub returns-in_err-name-2-clause-goes : goal.returns-in_err-name-2-clause-goes
returns-in_err-name-2-clause-goes g c told first word before = c.next_in_round-2.ensures.goes told first word (c.begin_round.ensures.goes told first word (c.next_in_round.ensures.goes told first word before))

pub returns-in_err-name-2-clause-lines : goal.returns-in_err-name-2-clause-lines
returns-in_err-name-2-clause-lines g c conn came line = c.next_in_round.ensures.lines conn came (c.begin_round.ensures.lines conn came (c.next_in_round-2.ensures.lines conn came line))

pub returns-in_err-name-2-clause-stays : goal.returns-in_err-name-2-clause-stays
returns-in_err-name-2-clause-stays g c = stays_over c.args.self.now c.begin_round.new.self c.next_in_round-2.new.self (stays_over c.args.self.now c.next_in_round.new.self c.begin_round.new.self c.next_in_round.ensures.stays c.begin_round.ensures.stays) c.next_in_round-2.ensures.stays

pub returns-in-Some-2-clause-goes : goal.returns-in-Some-2-clause-goes
returns-in-Some-2-clause-goes g c told first word before = c.next_in_round-2.ensures.goes told first word (c.begin_round.ensures.goes told first word (c.next_in_round.ensures.goes told first word before))

pub returns-in-Some-2-clause-lines : goal.returns-in-Some-2-clause-lines
returns-in-Some-2-clause-lines g c conn came line = c.next_in_round.ensures.lines conn came (c.begin_round.ensures.lines conn came (c.next_in_round-2.ensures.lines conn came line))

pub returns-in-Some-2-clause-stays : goal.returns-in-Some-2-clause-stays
returns-in-Some-2-clause-stays g c = stays_over c.args.self.now c.begin_round.new.self c.next_in_round-2.new.self (stays_over c.args.self.now c.next_in_round.new.self c.begin_round.new.self c.next_in_round.ensures.stays c.begin_round.ensures.stays) c.next_in_round-2.ensures.stays

pub returns-in_err-begin_round-2-clause-goes : goal.returns-in_err-begin_round-2-clause-goes
returns-in_err-begin_round-2-clause-goes g c told first word before = c.begin_round-2.ensures.goes told first word (c.next_in_round-2.ensures.goes told first word (c.begin_round.ensures.goes told first word (c.next_in_round.ensures.goes told first word before)))

pub returns-in_err-begin_round-2-clause-lines : goal.returns-in_err-begin_round-2-clause-lines
returns-in_err-begin_round-2-clause-lines g c conn came line = c.next_in_round.ensures.lines conn came (c.begin_round.ensures.lines conn came (c.next_in_round-2.ensures.lines conn came (c.begin_round-2.ensures.lines conn came line)))

pub returns-in_err-begin_round-2-clause-stays : goal.returns-in_err-begin_round-2-clause-stays
returns-in_err-begin_round-2-clause-stays g c = stays_over c.args.self.now c.next_in_round-2.new.self c.begin_round-2.new.self (stays_over c.args.self.now c.begin_round.new.self c.next_in_round-2.new.self (stays_over c.args.self.now c.next_in_round.new.self c.begin_round.new.self c.next_in_round.ensures.stays c.begin_round.ensures.stays) c.next_in_round-2.ensures.stays) c.begin_round-2.ensures.stays

pub returns-clause-goes : goal.returns-clause-goes
returns-clause-goes g c told first word before = c.begin_round-2.ensures.goes told first word (c.next_in_round-2.ensures.goes told first word (c.begin_round.ensures.goes told first word (c.next_in_round.ensures.goes told first word before)))

pub returns-clause-lines : goal.returns-clause-lines
returns-clause-lines g c conn came line = c.next_in_round.ensures.lines conn came (c.begin_round.ensures.lines conn came (c.next_in_round-2.ensures.lines conn came (c.begin_round-2.ensures.lines conn came line)))

pub returns-clause-stays : goal.returns-clause-stays
returns-clause-stays g c = stays_over c.args.self.now c.next_in_round-2.new.self c.begin_round-2.new.self (stays_over c.args.self.now c.begin_round.new.self c.next_in_round-2.new.self (stays_over c.args.self.now c.next_in_round.new.self c.begin_round.new.self c.next_in_round.ensures.stays c.begin_round.ensures.stays) c.next_in_round-2.ensures.stays) c.begin_round-2.ensures.stays
