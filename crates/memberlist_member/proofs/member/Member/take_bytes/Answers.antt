use Rattle.memberlist_member.proofs.Lines.{now_before}
use Rattle.memberlist_member.proofs.Showing.{same_probe}
use Rattle.memberlist_member.proofs.Carrying.{probe_over}
use Rattle.memberlist_member.proofs.member.Member.take_bytes.Goals as goal

pub returns-clause-goes : goal.returns-clause-goes
returns-clause-goes g c =
    let (told, each, goes) = c.look.ensures.goes in
    let ((((time, settings, cover, name, rises), details, leaving, seeds), times), probe) = c.keep_bytes.ensures.stays in (
      told,
      now_before c.args.self.now c.keep_bytes.new.self c.args.conn c.args.bytes.now c.keep_bytes.ensures.grows cover name told each,
      λ first word before. goes first word (c.keep_bytes.ensures.goes told first word before),
    )

pub returns-clause-probes : goal.returns-clause-probes
returns-clause-probes g c seq name inc due probing =
    same_probe c.args.self.now c.keep_bytes.new.self c.keep_bytes.ensures.stays.1 seq name inc due (c.look.ensures.probes seq name inc due probing)

pub returns-clause-stays : goal.returns-clause-stays
returns-clause-stays g c =
    probe_over c.args.self.now c.keep_bytes.new.self c.look.new.self c.keep_bytes.ensures.stays.0 c.look.ensures.stays

pub returns-clause-grows : goal.returns-clause-grows
returns-clause-grows g c each came line = c.keep_bytes.ensures.grows each came (c.look.ensures.lines each came line)

pub returns-in_default-clause-stays : goal.returns-in_default-clause-stays
returns-in_default-clause-stays g c =
    probe_over c.args.self.now c.refuse.new.self c.hang_up.new.self
    (probe_over c.args.self.now c.keep_bytes.new.self c.refuse.new.self c.keep_bytes.ensures.stays.0 c.refuse.ensures.stays.0)
    c.hang_up.ensures.stays.0

pub returns-in_default-clause-grows : goal.returns-in_default-clause-grows
returns-in_default-clause-grows g c each came line =
    c.keep_bytes.ensures.grows each came (c.refuse.ensures.lines each came (c.hang_up.ensures.lines each came line))
