use Rattle.std.proofs.Common.{rules}
use Rattle.memberlist_member.proofs.Carrying.{stays_over}
use Rattle.memberlist_member.proofs.member.Member.end_suspicions.Goals as goal

pub returns-in_err-end_suspicion-clause-lines : goal.returns-in_err-end_suspicion-clause-lines
returns-in_err-end_suspicion-clause-lines g c conn came line =
    c.loop-name.invariant.lines conn came (c.end_suspicion.ensures.lines conn came line)

pub loop-name-preserved : goal.loop-name-preserved
loop-name-preserved g c = record {
  adds = search rules;
  stays = stays_over c.args.self.now c.loop-name.self c.end_suspicion.new.self c.loop-name.invariant.stays c.end_suspicion.ensures.stays;
  goes = λ told first word before. c.end_suspicion.ensures.goes told first word (c.loop-name.invariant.goes told first word before);
  lines = λ conn came line. c.loop-name.invariant.lines conn came (c.end_suspicion.ensures.lines conn came line);
}

pub returns-in_err-end_suspicion-clause-stays : goal.returns-in_err-end_suspicion-clause-stays
returns-in_err-end_suspicion-clause-stays g c = stays_over c.args.self.now c.loop-name.self c.end_suspicion.new.self c.loop-name.invariant.stays c.end_suspicion.ensures.stays

pub returns-in_err-end_suspicion-clause-goes : goal.returns-in_err-end_suspicion-clause-goes
returns-in_err-end_suspicion-clause-goes g c told first word before =
    c.end_suspicion.ensures.goes told first word (c.loop-name.invariant.goes told first word before)
