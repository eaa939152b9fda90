use Rattle.memberlist_member.proofs.Showing.{forgotten}
use Rattle.memberlist_member.proofs.Remembering.{forgot}
use Rattle.memberlist_member.proofs.Watching.{watched_without}
use Rattle.memberlist_member.proofs.member.Member.begin_round.Goals as goal

pub invariant_of-self : goal.invariant_of-self
invariant_of-self g c =
    record {
      limited = c.args.self.now.limited;
      begun = c.args.self.now.begun;
      watched = watched_without c.args.self.now.view c.forget-count.new.self c.args.self.now.time c.args.self.now.time
          c.args.self.now.suspicions.list.items c.forget-count.ensures.forgets c.args.self.now.viewed c.args.self.now.watched;
      viewed = forgot c.args.self.now.view c.forget-count.new.self c.args.self.now.time c.args.self.now.time
          c.forget-count.ensures.view c.args.self.now.viewed;
    }

pub returns-then-count-eq0-clause-goes : goal.returns-then-count-eq0-clause-goes
returns-then-count-eq0-clause-goes g c told first word before =
    forgotten c.args.self.now c.forget-count.new.self told first word c.forget-count.ensures.forgets before

pub returns-clause-goes : goal.returns-clause-goes
returns-clause-goes g c told first word before = c.put.ensures.goes told first word
    (forgotten c.args.self.now c.forget-count.new.self told first word c.forget-count.ensures.forgets before)
