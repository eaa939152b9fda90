use Rattle.std.proofs.Common.{refl, sym, ◌∙◌}
use Rattle.memberlist_member.specs.Showing.{lines_of}
use Rattle.memberlist_member.proofs.Lines.{line_same}
use Rattle.memberlist_member.proofs.member.Member.write_first.Goals as goal

pub returns-then-is_empty-clause-lines : goal.returns-then-is_empty-clause-lines
returns-then-is_empty-clause-lines c conn came line =
    line_same (lines_of c.args.self.now) c.args.conn c.in-Some.index c.index_mut-connection.result.now
    (record c.index_mut-connection.result.now { first = c.replace-bytes.new.dest }) (sym c.index_of.ensures.first ∙ c.in-Some.is)
    c.index_mut-connection.ensures.value refl refl conn came line

pub returns-clause-lines : goal.returns-clause-lines
returns-clause-lines c conn came line =
    line_same (lines_of c.args.self.now) c.args.conn c.in-Some.index c.index_mut-connection.result.now
    (record c.index_mut-connection.result.now { first = c.replace-bytes.new.dest }) (sym c.index_of.ensures.first ∙ c.in-Some.is)
    c.index_mut-connection.ensures.value refl refl conn came (c.put.ensures.lines conn came line)
