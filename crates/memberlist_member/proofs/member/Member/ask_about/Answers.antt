use Rattle.memberlist_member.proofs.Carrying.{probe_over}
use Rattle.memberlist_member.proofs.member.Member.ask_about.Goals as goal

pub returns-clause-goes : goal.returns-clause-goes
returns-clause-goes g c told first word before = c.ask_over_tcp.ensures.goes told first word (c.ask_some.ensures.goes told first word before)

pub returns-clause-lines : goal.returns-clause-lines
returns-clause-lines g c conn came line = c.ask_some.ensures.lines conn came (c.ask_over_tcp.ensures.lines conn came line)

pub returns-clause-stays : goal.returns-clause-stays
returns-clause-stays g c = probe_over c.args.self.now c.ask_some.new.self c.ask_over_tcp.new.self c.ask_some.ensures.stays c.ask_over_tcp.ensures.stays

pub returns-clause-probes : goal.returns-clause-probes
returns-clause-probes g c seq name inc due probing = c.ask_some.ensures.probes seq name inc due (c.ask_over_tcp.ensures.probes seq name inc due probing)
