use Rattle.std.proofs.Common.{subst}
use Rattle.memberlist_member.specs.Showing.{HasCome, lines_of}
use Rattle.memberlist_member.proofs.Lines.{line_left}
use Rattle.memberlist_member.proofs.member.Member.hang_up.Goals.{in-Some, in-None}
use Rattle.memberlist_member.proofs.member.Member.hang_up.Goals as goal

pub returns-clause-lines : goal.returns-clause-lines
returns-clause-lines c conn came line = elim c.match-remove.branch [
  | in-Some w ↦
      line_left (lines_of c.args.self.now) c.remove.new.self.list.items c.args.conn conn came c.remove.ensures.left
      (w.put.ensures.lines conn came (subst (λ m. HasCome conn came (lines_of m)) w.self-is line))
  | in-None w ↦
      line_left (lines_of c.args.self.now) c.remove.new.self.list.items c.args.conn conn came c.remove.ensures.left
      (subst (λ m. HasCome conn came (lines_of m)) w.self-is line)
]
