use Rattle.std.proofs.Common.{rules}
use Rattle.memberlist_member.specs.Steps.{IsHeededAck, IsOutdoneIn}
use Rattle.memberlist_member.proofs.Heeding.{answered_later, one_more, outdone_later}
use Rattle.memberlist_member.proofs.Carrying.{probe_over}
use Rattle.memberlist_member.proofs.member.Member.take_parts.Goals as goal

pub loop-part-preserved : goal.loop-part-preserved
loop-part-preserved g c =
    let old = c.loop-part.self in
    let new = c.take_part.new.self in
    let before = c.loop-part.invariant in
    let (((time, settings, cover, name, rises), details, leaving, seeds), times) = c.take_part.ensures.stays in
    record {
      adds = search rules;
      goes = λ told all first word before.
          c.take_part.ensures.goes told (all c.loop-part.part-index _ (search rules)) first word (c.loop-part.invariant.goes told all first word before);
      stays = probe_over c.args.self.now c.loop-part.self c.take_part.new.self c.loop-part.invariant.stays c.take_part.ensures.stays;
      probes = λ seq name inc due probing. c.loop-part.invariant.probes seq name inc due (c.take_part.ensures.probes seq name inc due probing);
      lines = λ conn came line. c.loop-part.invariant.lines conn came (c.take_part.ensures.lines conn came line);
      outdone = one_more (λ p. IsOutdoneIn old.own p.now) (λ p. IsOutdoneIn new.own p.now) c.args.parts.now
          c.loop-part.part-index _ (search rules) (λ p. outdone_later old.own new.own name leaving rises p.now) before.outdone
          c.in_ok-take_part.ensures.outdone;
      answered = one_more (λ p. IsHeededAck old p.now) (λ p. IsHeededAck new p.now) c.args.parts.now
          c.loop-part.part-index _ (search rules) (λ p. answered_later old new c.take_part.ensures.keeps p.now) before.answered
          c.in_ok-take_part.ensures.answered;
    }

pub returns-in_err-take_part-clause-stays : goal.returns-in_err-take_part-clause-stays
returns-in_err-take_part-clause-stays g c = probe_over c.args.self.now c.loop-part.self c.take_part.new.self c.loop-part.invariant.stays c.take_part.ensures.stays

pub returns-in_err-take_part-clause-lines : goal.returns-in_err-take_part-clause-lines
returns-in_err-take_part-clause-lines g c conn came line = c.loop-part.invariant.lines conn came (c.take_part.ensures.lines conn came line)

pub returns-in_err-take_part-clause-probes : goal.returns-in_err-take_part-clause-probes
returns-in_err-take_part-clause-probes g c seq name inc due probing = c.loop-part.invariant.probes seq name inc due (c.take_part.ensures.probes seq name inc due probing)
