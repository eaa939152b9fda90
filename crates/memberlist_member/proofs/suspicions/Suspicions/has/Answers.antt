use Rattle.std.proofs.Common.{sym, ◌∙◌}
use Rattle.memberlist_member.specs.Suspects.{is_suspect}
use Rattle.memberlist_member.proofs.Suspected.{once_at}
use Rattle.memberlist_member.proofs.Taking.{no_place}
use Rattle.memberlist_member.proofs.suspicions.Suspicions.has.Goals as goal

pub returns-in-Some-clause-once : goal.returns-in-Some-clause-once
returns-in-Some-clause-once c =
    once_at c.args.self.now.list.items c.args.name.now c.in-Some.field-0 (sym c.place_of.ensures ∙ c.in-Some.is) c.args.self.now.apart

pub returns-in-None-clause-none : goal.returns-in-None-clause-none
returns-in-None-clause-none c = (no_place (is_suspect c.args.name.now) c.args.self.now.list.items (sym c.place_of.ensures ∙ c.in-None.is)).none
