use Rattle.memberlist_member.proofs.Carrying.{probe_over}
use Rattle.memberlist_member.proofs.Showing.{in_time_then, same_probe, then_in_time}
use Rattle.memberlist_member.proofs.member.Member.probe_member.Goals as goal

pub returns-then-is_suspect-clause-stays : goal.returns-then-is_suspect-clause-stays
returns-then-is_suspect-clause-stays g c =
    probe_over c.args.self.now c.next_seq-seq.new.self c.probe_suspect.new.self c.next_seq-seq.ensures.stays.0 c.probe_suspect.ensures.stays

pub returns-then-is_suspect-clause-probes : goal.returns-then-is_suspect-clause-probes
returns-then-is_suspect-clause-probes g c = then_in_time c.args.self.now c.next_seq-seq.new.self c.probe_suspect.new.self
    (same_probe c.args.self.now c.next_seq-seq.new.self c.next_seq-seq.ensures.stays.1) c.probe_suspect.ensures.probes

pub returns-then-is_suspect-clause-goes : goal.returns-then-is_suspect-clause-goes
returns-then-is_suspect-clause-goes g c told first word before =
    c.probe_suspect.ensures.goes told first word (c.next_seq-seq.ensures.goes told first word before)

pub returns-then-is_suspect-clause-lines : goal.returns-then-is_suspect-clause-lines
returns-then-is_suspect-clause-lines g c conn came line =
    c.next_seq-seq.ensures.lines conn came (c.probe_suspect.ensures.lines conn came line)

pub returns-clause-stays : goal.returns-clause-stays
returns-clause-stays g c =
    probe_over c.args.self.now c.set_probe.new.self c.send_with_news.new.self
    (probe_over c.args.self.now c.next_seq-seq.new.self c.set_probe.new.self c.next_seq-seq.ensures.stays.0 c.set_probe.ensures.stays)
    c.send_with_news.ensures.stays.0

pub returns-clause-probes : goal.returns-clause-probes
returns-clause-probes g c = in_time_then c.args.self.now c.set_probe.new.self c.send_with_news.new.self
    (then_in_time c.args.self.now c.next_seq-seq.new.self c.set_probe.new.self
    (same_probe c.args.self.now c.next_seq-seq.new.self c.next_seq-seq.ensures.stays.1) c.set_probe.ensures.probes)
    (same_probe c.set_probe.new.self c.send_with_news.new.self c.send_with_news.ensures.stays.1) c.send_with_news.ensures.stays.0.0.0

pub returns-clause-goes : goal.returns-clause-goes
returns-clause-goes g c told first word before =
    c.send_with_news.ensures.goes told first word (c.set_probe.ensures.goes told first word
    (c.next_seq-seq.ensures.goes told first word before))

pub returns-clause-lines : goal.returns-clause-lines
returns-clause-lines g c conn came line =
    c.next_seq-seq.ensures.lines conn came (c.set_probe.ensures.lines conn came (c.send_with_news.ensures.lines conn came line))
