use Rattle.std.proofs.Common.{rules}
use Rattle.memberlist_member.proofs.Carrying.{stays_over}
use Rattle.memberlist_member.proofs.member.Member.close_overdue.Goals as goal

pub loop-preserved : goal.loop-preserved
loop-preserved c = record {
  adds = search rules;
  stays = stays_over c.args.self.now c.loop.self c.hang_up.new.self c.loop.invariant.stays c.hang_up.ensures.stays;
  goes = λ told first word before. c.hang_up.ensures.goes told first word (c.loop.invariant.goes told first word before);
  lines = λ conn came line. c.loop.invariant.lines conn came (c.hang_up.ensures.lines conn came line);
}

pub returns-in_err-hang_up-clause-goes : goal.returns-in_err-hang_up-clause-goes
returns-in_err-hang_up-clause-goes c told first word before = c.hang_up.ensures.goes told first word (c.loop.invariant.goes told first word before)

pub returns-in_err-hang_up-clause-lines : goal.returns-in_err-hang_up-clause-lines
returns-in_err-hang_up-clause-lines c conn came line = c.loop.invariant.lines conn came (c.hang_up.ensures.lines conn came line)

pub returns-in_err-hang_up-clause-stays : goal.returns-in_err-hang_up-clause-stays
returns-in_err-hang_up-clause-stays c = stays_over c.args.self.now c.loop.self c.hang_up.new.self c.loop.invariant.stays c.hang_up.ensures.stays
