-- The one that is added has a name that none has yet.
use Rattle.std.proofs.Common.{sym, subst}
use Rattle.std.specs.Result.{is_ok}
use Rattle.memberlist_member.proofs.Suspected.{AreOnce, once_either}
use Rattle.memberlist_member.proofs.suspicions.Suspicions.add.Goals as goal

pub invariant_of-self : goal.invariant_of-self
invariant_of-self c = record {
  apart = subst AreOnce (sym c.push.ensures.items)
      (once_either (is_ok c.push.result) c.args.self.now.list.items (record { name = c.args.name; suspicion = c.args.suspicion })
      c.requires.new c.args.self.now.apart);
}
