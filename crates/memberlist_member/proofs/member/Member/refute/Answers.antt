use Rattle.memberlist_member.proofs.Showing.{after_refuting}
use Rattle.memberlist_member.proofs.member.Member.refute.Goals as goal

pub returns-in_err-announce-clause-goes : goal.returns-in_err-announce-clause-goes
returns-in_err-announce-clause-goes g c told said ground itself stays is rises first word before =
    c.announce.ensures.goes told first word
    (after_refuting told c.args.self.now c.outdo.new.self c.args.accused said first word ground itself stays is rises
    c.if-not-outdo.ensures.done before)

pub returns-clause-goes : goal.returns-clause-goes
returns-clause-goes g c told said ground itself stays is rises first word before =
    c.put-2.ensures.goes told first word (c.announce.ensures.goes told first word
    (after_refuting told c.args.self.now c.outdo.new.self c.args.accused said first word ground itself stays is rises
    c.if-not-outdo.ensures.done before))

pub returns-clause-lines : goal.returns-clause-lines
returns-clause-lines g c conn came line = c.announce.ensures.lines conn came (c.put-2.ensures.lines conn came line)
