use Rattle.std.proofs.Common.{rules}
use Rattle.memberlist_member.proofs.Carrying.{stays_over}
use Rattle.memberlist_member.proofs.member.Member.end_relays.Goals as goal

pub loop-preserved : goal.loop-preserved
loop-preserved g c = record {
  adds = search rules;
  stays = stays_over c.args.self.now c.loop.self c.end_relay.new.self c.loop.invariant.stays c.end_relay.ensures.stays;
  goes = λ told first word before. c.end_relay.ensures.goes told first word (c.loop.invariant.goes told first word before);
  lines = λ conn came line. c.loop.invariant.lines conn came (c.end_relay.ensures.lines conn came line);
}

pub returns-in_err-end_relay-clause-goes : goal.returns-in_err-end_relay-clause-goes
returns-in_err-end_relay-clause-goes g c told first word before = c.end_relay.ensures.goes told first word (c.loop.invariant.goes told first word before)

pub returns-in_err-end_relay-clause-lines : goal.returns-in_err-end_relay-clause-lines
returns-in_err-end_relay-clause-lines g c conn came line = c.loop.invariant.lines conn came (c.end_relay.ensures.lines conn came line)

pub returns-in_err-end_relay-clause-stays : goal.returns-in_err-end_relay-clause-stays
returns-in_err-end_relay-clause-stays g c = stays_over c.args.self.now c.loop.self c.end_relay.new.self c.loop.invariant.stays c.end_relay.ensures.stays
