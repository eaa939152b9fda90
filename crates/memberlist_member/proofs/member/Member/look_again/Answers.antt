use Rattle.std.proofs.Common.{get_or, rules}
use Rattle.memberlist_member.specs.Connecting.{looks_now}
use Rattle.memberlist_member.specs.Showing.{lines_of}
use Rattle.memberlist_member.proofs.Lines.{line_looked, more_lines, said_over_too}
use Rattle.memberlist_member.proofs.Showing.{itself}
use Rattle.memberlist_member.proofs.Carrying.{probe_over}
use Rattle.memberlist_member.proofs.member.Member.look_again.Goals as goal

pub returns-in_err-look-clause-goes : goal.returns-in_err-look-clause-goes
returns-in_err-look-clause-goes g c =
    let (((time, settings, cover, name, rises), details, leaving, seeds), times) = c.loop.invariant.stays in
    let (more, said, on) = c.look.ensures.goes in
    more_lines c.args.self.now c.loop.self c.look.new.self (itself c.args.self.now c.loop.self c.loop.invariant.stays.0.0)
    (itself c.loop.self c.look.new.self c.look.ensures.stays.0.0) c.loop.invariant.goes more
    (λ k d less.
    let (came, has, says) = said k d less in (
      c.in-Some.conn,
      (
        came,
        c.loop.invariant.lines c.in-Some.conn came (line_looked (lines_of c.loop.self) c.to_look_at.new.self.list.items
            (looks_now c.loop.self.time) c.in-Some.conn came c.to_look_at.ensures.looked has),
        said_over_too c.args.self.now c.loop.self cover name came (get_or more k d) says,
      ),
    ))
    on

pub loop-preserved : goal.loop-preserved
loop-preserved g c = record {
  adds = search rules;
  stays = probe_over c.args.self.now c.loop.self c.look.new.self c.loop.invariant.stays c.look.ensures.stays;
  goes =
      let (((time, settings, cover, name, rises), details, leaving, seeds), times) = c.loop.invariant.stays in
      let (more, said, on) = c.look.ensures.goes in
      more_lines c.args.self.now c.loop.self c.look.new.self (itself c.args.self.now c.loop.self c.loop.invariant.stays.0.0)
      (itself c.loop.self c.look.new.self c.look.ensures.stays.0.0) c.loop.invariant.goes more
      (λ k d less.
      let (came, has, says) = said k d less in (
        c.in-Some.conn,
        (
          came,
          c.loop.invariant.lines c.in-Some.conn came (line_looked (lines_of c.loop.self) c.to_look_at.new.self.list.items
              (looks_now c.loop.self.time) c.in-Some.conn came c.to_look_at.ensures.looked has),
          said_over_too c.args.self.now c.loop.self cover name came (get_or more k d) says,
        ),
      ))
      on;
  probes = λ seq name inc due probing. c.loop.invariant.probes seq name inc due (c.look.ensures.probes seq name inc due probing);
  lines = λ conn came line.
      c.loop.invariant.lines conn came (line_looked (lines_of c.loop.self) c.to_look_at.new.self.list.items (looks_now c.loop.self.time)
      conn came c.to_look_at.ensures.looked (c.look.ensures.lines conn came line));
}

pub returns-in_err-look-clause-lines : goal.returns-in_err-look-clause-lines
returns-in_err-look-clause-lines g c conn came line =
    c.loop.invariant.lines conn came (line_looked (lines_of c.loop.self) c.to_look_at.new.self.list.items (looks_now c.loop.self.time)
    conn came c.to_look_at.ensures.looked (c.look.ensures.lines conn came line))

pub returns-in_default-clause-lines : goal.returns-in_default-clause-lines
returns-in_default-clause-lines g c conn came line =
    c.loop.invariant.lines conn came (line_looked (lines_of c.loop.self) c.to_look_at.new.self.list.items (looks_now c.loop.self.time)
    conn came c.to_look_at.ensures.looked line)

pub returns-in_err-look-clause-stays : goal.returns-in_err-look-clause-stays
returns-in_err-look-clause-stays g c = probe_over c.args.self.now c.loop.self c.look.new.self c.loop.invariant.stays c.look.ensures.stays

pub returns-in_err-look-clause-probes : goal.returns-in_err-look-clause-probes
returns-in_err-look-clause-probes g c seq name inc due probing = c.loop.invariant.probes seq name inc due (c.look.ensures.probes seq name inc due probing)
