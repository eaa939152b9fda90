use Rattle.memberlist_member.proofs.Carrying.{times_over}
use Rattle.memberlist_member.proofs.member.Member.dial_in_time.Goals as goal

pub returns-in_err-reconnect_in_time-clause-goes : goal.returns-in_err-reconnect_in_time-clause-goes
returns-in_err-reconnect_in_time-clause-goes g c told first word before = c.reconnect_in_time.ensures.goes told first word (c.exchange_in_time.ensures.goes told first word before)

pub returns-in_err-reconnect_in_time-clause-lines : goal.returns-in_err-reconnect_in_time-clause-lines
returns-in_err-reconnect_in_time-clause-lines g c conn came line = c.exchange_in_time.ensures.lines conn came (c.reconnect_in_time.ensures.lines conn came line)

pub returns-in_err-reconnect_in_time-clause-stays : goal.returns-in_err-reconnect_in_time-clause-stays
returns-in_err-reconnect_in_time-clause-stays g c = times_over c.args.self.now c.exchange_in_time.new.self c.reconnect_in_time.new.self c.exchange_in_time.ensures.stays c.reconnect_in_time.ensures.stays

pub returns-in_err-reconnect_in_time-clause-probes : goal.returns-in_err-reconnect_in_time-clause-probes
returns-in_err-reconnect_in_time-clause-probes g c seq name inc due probing = c.exchange_in_time.ensures.probes seq name inc due (c.reconnect_in_time.ensures.probes seq name inc due probing)

pub returns-clause-goes : goal.returns-clause-goes
returns-clause-goes g c told first word before = c.join_in_time.ensures.goes told first word (c.reconnect_in_time.ensures.goes told first word (c.exchange_in_time.ensures.goes told first word before))

pub returns-clause-lines : goal.returns-clause-lines
returns-clause-lines g c conn came line = c.exchange_in_time.ensures.lines conn came (c.reconnect_in_time.ensures.lines conn came (c.join_in_time.ensures.lines conn came line))

pub returns-clause-stays : goal.returns-clause-stays
returns-clause-stays g c = times_over c.args.self.now c.reconnect_in_time.new.self c.join_in_time.new.self (times_over c.args.self.now c.exchange_in_time.new.self c.reconnect_in_time.new.self c.exchange_in_time.ensures.stays c.reconnect_in_time.ensures.stays) c.join_in_time.ensures.stays

pub returns-clause-probes : goal.returns-clause-probes
returns-clause-probes g c seq name inc due probing = c.exchange_in_time.ensures.probes seq name inc due (c.reconnect_in_time.ensures.probes seq name inc due (c.join_in_time.ensures.probes seq name inc due probing))
