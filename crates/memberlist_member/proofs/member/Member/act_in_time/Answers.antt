use Rattle.memberlist_member.proofs.Carrying.{times_over}
use Rattle.memberlist_member.proofs.Showing.{in_time_then, same_probe}
use Rattle.memberlist_member.proofs.member.Member.act_in_time.Goals as goal

pub returns-in_err-gossip_in_time-clause-goes : goal.returns-in_err-gossip_in_time-clause-goes
returns-in_err-gossip_in_time-clause-goes g c told first word before = c.gossip_in_time.ensures.goes told first word (c.probe_in_time.ensures.goes told first word before)

pub returns-in_err-gossip_in_time-clause-lines : goal.returns-in_err-gossip_in_time-clause-lines
returns-in_err-gossip_in_time-clause-lines g c conn came line = c.probe_in_time.ensures.lines conn came (c.gossip_in_time.ensures.lines conn came line)

pub returns-in_err-gossip_in_time-clause-stays : goal.returns-in_err-gossip_in_time-clause-stays
returns-in_err-gossip_in_time-clause-stays g c = times_over c.args.self.now c.probe_in_time.new.self c.gossip_in_time.new.self c.probe_in_time.ensures.stays c.gossip_in_time.ensures.stays

pub returns-in_err-dial_in_time-clause-goes : goal.returns-in_err-dial_in_time-clause-goes
returns-in_err-dial_in_time-clause-goes g c told first word before = c.dial_in_time.ensures.goes told first word (c.gossip_in_time.ensures.goes told first word (c.probe_in_time.ensures.goes told first word before))

pub returns-in_err-dial_in_time-clause-lines : goal.returns-in_err-dial_in_time-clause-lines
returns-in_err-dial_in_time-clause-lines g c conn came line = c.probe_in_time.ensures.lines conn came (c.gossip_in_time.ensures.lines conn came (c.dial_in_time.ensures.lines conn came line))

pub returns-in_err-dial_in_time-clause-stays : goal.returns-in_err-dial_in_time-clause-stays
returns-in_err-dial_in_time-clause-stays g c = times_over c.args.self.now c.gossip_in_time.new.self c.dial_in_time.new.self (times_over c.args.self.now c.probe_in_time.new.self c.gossip_in_time.new.self c.probe_in_time.ensures.stays c.gossip_in_time.ensures.stays) c.dial_in_time.ensures.stays

pub returns-in_err-close_overdue-clause-goes : goal.returns-in_err-close_overdue-clause-goes
returns-in_err-close_overdue-clause-goes g c told first word before = c.close_overdue.ensures.goes told first word (c.dial_in_time.ensures.goes told first word (c.gossip_in_time.ensures.goes told first word (c.probe_in_time.ensures.goes told first word before)))

pub returns-in_err-close_overdue-clause-lines : goal.returns-in_err-close_overdue-clause-lines
returns-in_err-close_overdue-clause-lines g c conn came line = c.probe_in_time.ensures.lines conn came (c.gossip_in_time.ensures.lines conn came (c.dial_in_time.ensures.lines conn came (c.close_overdue.ensures.lines conn came line)))

pub returns-in_err-close_overdue-clause-stays : goal.returns-in_err-close_overdue-clause-stays
returns-in_err-close_overdue-clause-stays g c = times_over c.args.self.now c.dial_in_time.new.self c.close_overdue.new.self (times_over c.args.self.now c.gossip_in_time.new.self c.dial_in_time.new.self (times_over c.args.self.now c.probe_in_time.new.self c.gossip_in_time.new.self c.probe_in_time.ensures.stays c.gossip_in_time.ensures.stays) c.dial_in_time.ensures.stays) c.close_overdue.ensures.stays.0.0

pub returns-clause-goes : goal.returns-clause-goes
returns-clause-goes g c told first word before = c.depart.ensures.goes told first word (c.close_overdue.ensures.goes told first word (c.dial_in_time.ensures.goes told first word (c.gossip_in_time.ensures.goes told first word (c.probe_in_time.ensures.goes told first word before))))

pub returns-clause-lines : goal.returns-clause-lines
returns-clause-lines g c conn came line = c.probe_in_time.ensures.lines conn came (c.gossip_in_time.ensures.lines conn came (c.dial_in_time.ensures.lines conn came (c.close_overdue.ensures.lines conn came (c.depart.ensures.lines conn came line))))

pub returns-clause-stays : goal.returns-clause-stays
returns-clause-stays g c = times_over c.args.self.now c.close_overdue.new.self c.depart.new.self (times_over c.args.self.now c.dial_in_time.new.self c.close_overdue.new.self (times_over c.args.self.now c.gossip_in_time.new.self c.dial_in_time.new.self (times_over c.args.self.now c.probe_in_time.new.self c.gossip_in_time.new.self c.probe_in_time.ensures.stays c.gossip_in_time.ensures.stays) c.dial_in_time.ensures.stays) c.close_overdue.ensures.stays.0.0) c.depart.ensures.stays

pub returns-in_err-gossip_in_time-clause-probes : goal.returns-in_err-gossip_in_time-clause-probes
returns-in_err-gossip_in_time-clause-probes g c = in_time_then c.args.self.now c.probe_in_time.new.self c.gossip_in_time.new.self c.probe_in_time.ensures.probes
    c.gossip_in_time.ensures.probes c.gossip_in_time.ensures.stays.0

pub returns-in_err-dial_in_time-clause-probes : goal.returns-in_err-dial_in_time-clause-probes
returns-in_err-dial_in_time-clause-probes g c = in_time_then c.args.self.now c.gossip_in_time.new.self c.dial_in_time.new.self (in_time_then c.args.self.now c.probe_in_time.new.self c.gossip_in_time.new.self c.probe_in_time.ensures.probes
    c.gossip_in_time.ensures.probes c.gossip_in_time.ensures.stays.0)
    c.dial_in_time.ensures.probes c.dial_in_time.ensures.stays.0

pub returns-in_err-close_overdue-clause-probes : goal.returns-in_err-close_overdue-clause-probes
returns-in_err-close_overdue-clause-probes g c = in_time_then c.args.self.now c.dial_in_time.new.self c.close_overdue.new.self (in_time_then c.args.self.now c.gossip_in_time.new.self c.dial_in_time.new.self (in_time_then c.args.self.now c.probe_in_time.new.self c.gossip_in_time.new.self c.probe_in_time.ensures.probes
    c.gossip_in_time.ensures.probes c.gossip_in_time.ensures.stays.0)
    c.dial_in_time.ensures.probes c.dial_in_time.ensures.stays.0)
    (same_probe c.dial_in_time.new.self c.close_overdue.new.self c.close_overdue.ensures.stays.1) c.close_overdue.ensures.stays.0.0.0

pub returns-clause-probes : goal.returns-clause-probes
returns-clause-probes g c = in_time_then c.args.self.now c.close_overdue.new.self c.depart.new.self (in_time_then c.args.self.now c.dial_in_time.new.self c.close_overdue.new.self (in_time_then c.args.self.now c.gossip_in_time.new.self c.dial_in_time.new.self (in_time_then c.args.self.now c.probe_in_time.new.self c.gossip_in_time.new.self c.probe_in_time.ensures.probes
    c.gossip_in_time.ensures.probes c.gossip_in_time.ensures.stays.0)
    c.dial_in_time.ensures.probes c.dial_in_time.ensures.stays.0)
    (same_probe c.dial_in_time.new.self c.close_overdue.new.self c.close_overdue.ensures.stays.1) c.close_overdue.ensures.stays.0.0.0)
    c.depart.ensures.probes c.depart.ensures.stays.0
