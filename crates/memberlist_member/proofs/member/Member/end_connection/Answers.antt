use Rattle.memberlist_member.specs.Showing.{lines_of}
use Rattle.memberlist_member.proofs.Lines.{line_left}
use Rattle.memberlist_member.proofs.member.Member.end_connection.Goals as goal

pub returns-clause-lines : goal.returns-clause-lines
returns-clause-lines g c conn came line = c.look.ensures.lines conn came
    (line_left (lines_of c.look.new.self) c.remove.new.self.list.items c.args.conn conn came c.remove.ensures.left line)
