use Rattle.std.proofs.Common.{rules}
use Rattle.memberlist_member.proofs.Carrying.{probe_over}
use Rattle.memberlist_member.proofs.member.Member.ask_some.Goals as goal

pub loop-peer-preserved : goal.loop-peer-preserved
loop-peer-preserved g c = record {
  adds = search rules;
  stays = probe_over c.args.self.now c.loop-peer.self c.ask.new.self c.loop-peer.invariant.stays c.ask.ensures.stays;
  goes = λ told first word before. c.ask.ensures.goes told first word (c.loop-peer.invariant.goes told first word before);
  probes = λ seq name inc due probing. c.loop-peer.invariant.probes seq name inc due (c.ask.ensures.probes seq name inc due probing);
  lines = λ conn came line. c.loop-peer.invariant.lines conn came (c.ask.ensures.lines conn came line);
}

pub returns-in_err-ask-clause-probes : goal.returns-in_err-ask-clause-probes
returns-in_err-ask-clause-probes g c seq name inc due probing =
    c.loop-peer.invariant.probes seq name inc due (c.ask.ensures.probes seq name inc due probing)

pub returns-in_err-ask-clause-goes : goal.returns-in_err-ask-clause-goes
returns-in_err-ask-clause-goes g c told first word before = c.ask.ensures.goes told first word (c.loop-peer.invariant.goes told first word before)

pub returns-in_err-ask-clause-lines : goal.returns-in_err-ask-clause-lines
returns-in_err-ask-clause-lines g c conn came line = c.loop-peer.invariant.lines conn came (c.ask.ensures.lines conn came line)

pub returns-in_err-ask-clause-stays : goal.returns-in_err-ask-clause-stays
returns-in_err-ask-clause-stays g c =
    probe_over c.args.self.now c.loop-peer.self c.ask.new.self c.loop-peer.invariant.stays c.ask.ensures.stays
