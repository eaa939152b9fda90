use Rattle.std.proofs.Common.{rules}
use Rattle.memberlist_member.proofs.Carrying.{itself_over}
use Rattle.memberlist_member.proofs.Showing.{same_probe}
use Rattle.memberlist_member.proofs.member.Member.join.Goals as goal

pub loop-seed-preserved : goal.loop-seed-preserved
loop-seed-preserved g c = record {
  adds = search rules;
  stays = itself_over c.args.self.now c.loop-seed.self c.exchange.new.self c.loop-seed.invariant.stays c.exchange.ensures.stays.0.0.0;
  seeds = search rules;
  goes = λ told first word before. c.exchange.ensures.goes told first word (c.loop-seed.invariant.goes told first word before);
  probes = λ seq name inc due probing. c.loop-seed.invariant.probes seq name inc due
      (same_probe c.loop-seed.self c.exchange.new.self c.exchange.ensures.stays.1 seq name inc due probing);
  lines = λ conn came line. c.loop-seed.invariant.lines conn came (c.exchange.ensures.lines conn came line);
}

pub returns-in_err-exchange-clause-stays : goal.returns-in_err-exchange-clause-stays
returns-in_err-exchange-clause-stays g c =
    itself_over c.args.self.now c.loop-seed.self c.exchange.new.self c.loop-seed.invariant.stays c.exchange.ensures.stays.0.0.0

pub returns-in_err-exchange-clause-goes : goal.returns-in_err-exchange-clause-goes
returns-in_err-exchange-clause-goes g c told first word before =
    c.exchange.ensures.goes told first word (c.loop-seed.invariant.goes told first word before)

pub returns-in_err-exchange-clause-probes : goal.returns-in_err-exchange-clause-probes
returns-in_err-exchange-clause-probes g c seq name inc due probing = c.loop-seed.invariant.probes seq name inc due
    (same_probe c.loop-seed.self c.exchange.new.self c.exchange.ensures.stays.1 seq name inc due probing)

pub returns-in_err-exchange-clause-lines : goal.returns-in_err-exchange-clause-lines
returns-in_err-exchange-clause-lines g c conn came line =
    c.loop-seed.invariant.lines conn came (c.exchange.ensures.lines conn came line)
