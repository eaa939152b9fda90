use Rattle.memberlist_member.specs.Showing.{lines_of}
use Rattle.memberlist_member.proofs.Lines.{line_added}
use Rattle.memberlist_member.proofs.member.Member.take_connection.Goals as goal

pub returns-clause-lines : goal.returns-clause-lines
returns-clause-lines c conn came line =
    line_added (lines_of c.args.self.now) c.add.new.self.list.items c.new.result c.add.result conn came c.new.ensures.came
    c.add.ensures.added c.add.ensures.refused line
