use Rattle.std.proofs.Common.{rules}
use Rattle.memberlist_member.proofs.Carrying.{stays_over}
use Rattle.memberlist_member.proofs.member.Member.gossip.Goals as goal

pub returns-in_err-tell_news-clause-goes : goal.returns-in_err-tell_news-clause-goes
returns-in_err-tell_news-clause-goes g c told first word before =
    c.tell_news.ensures.goes told first word (c.loop-name.invariant.goes told first word before)

pub returns-in_err-tell_news-clause-lines : goal.returns-in_err-tell_news-clause-lines
returns-in_err-tell_news-clause-lines g c conn came line =
    c.loop-name.invariant.lines conn came (c.tell_news.ensures.lines conn came line)

pub returns-in_err-tell_news-clause-stays : goal.returns-in_err-tell_news-clause-stays
returns-in_err-tell_news-clause-stays g c =
    stays_over c.args.self.now c.loop-name.self c.tell_news.new.self c.loop-name.invariant.stays c.tell_news.ensures.stays

pub returns-then-not-branch-clause-goes : goal.returns-then-not-branch-clause-goes
returns-then-not-branch-clause-goes g c told first word before =
    c.tell_news.ensures.goes told first word (c.loop-name.invariant.goes told first word before)

pub returns-then-not-branch-clause-lines : goal.returns-then-not-branch-clause-lines
returns-then-not-branch-clause-lines g c conn came line =
    c.loop-name.invariant.lines conn came (c.tell_news.ensures.lines conn came line)

pub returns-then-not-branch-clause-stays : goal.returns-then-not-branch-clause-stays
returns-then-not-branch-clause-stays g c =
    stays_over c.args.self.now c.loop-name.self c.tell_news.new.self c.loop-name.invariant.stays c.tell_news.ensures.stays

pub loop-name-preserved : goal.loop-name-preserved
loop-name-preserved g c = record {
  adds = search rules;
  stays = stays_over c.args.self.now c.loop-name.self c.tell_news.new.self c.loop-name.invariant.stays c.tell_news.ensures.stays;
  goes = λ told first word before. c.tell_news.ensures.goes told first word (c.loop-name.invariant.goes told first word before);
  lines = λ conn came line. c.loop-name.invariant.lines conn came (c.tell_news.ensures.lines conn came line);
}
