use Rattle.memberlist_member.specs.Showing.{lines_of}
use Rattle.memberlist_member.proofs.Lines.{line_added}
use Rattle.memberlist_member.proofs.Carrying.{stays_over}
use Rattle.memberlist_member.proofs.member.Member.dial.Goals as goal

pub returns-in_err-add-clause-lines : goal.returns-in_err-add-clause-lines
returns-in_err-add-clause-lines g c conn came line =
    c.next_conn-conn.ensures.lines conn came (line_added (lines_of c.next_conn-conn.new.self) c.add.new.self.list.items c.new.result c.add.result
    conn came c.new.ensures.came c.add.ensures.added c.add.ensures.refused line)

pub returns-in_err-put-clause-lines : goal.returns-in_err-put-clause-lines
returns-in_err-put-clause-lines g c conn came line =
    c.next_conn-conn.ensures.lines conn came (line_added (lines_of c.next_conn-conn.new.self) c.add.new.self.list.items c.new.result c.add.result
    conn came c.new.ensures.came c.add.ensures.added c.add.ensures.refused (c.put.ensures.lines conn came line))

pub returns-clause-lines : goal.returns-clause-lines
returns-clause-lines g c conn came line =
    c.next_conn-conn.ensures.lines conn came (line_added (lines_of c.next_conn-conn.new.self) c.add.new.self.list.items c.new.result c.add.result
    conn came c.new.ensures.came c.add.ensures.added c.add.ensures.refused (c.put.ensures.lines conn came line))

pub returns-in_err-put-clause-goes : goal.returns-in_err-put-clause-goes
returns-in_err-put-clause-goes g c told first word before = c.put.ensures.goes told first word (c.next_conn-conn.ensures.goes told first word before)

pub returns-in_err-put-clause-stays : goal.returns-in_err-put-clause-stays
returns-in_err-put-clause-stays g c = stays_over c.args.self.now c.next_conn-conn.new.self c.put.new.self c.next_conn-conn.ensures.stays c.put.ensures.stays

pub returns-clause-goes : goal.returns-clause-goes
returns-clause-goes g c told first word before = c.put.ensures.goes told first word (c.next_conn-conn.ensures.goes told first word before)

pub returns-clause-stays : goal.returns-clause-stays
returns-clause-stays g c = stays_over c.args.self.now c.next_conn-conn.new.self c.put.new.self c.next_conn-conn.ensures.stays c.put.ensures.stays
