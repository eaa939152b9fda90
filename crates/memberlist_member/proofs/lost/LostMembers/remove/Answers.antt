-- What is removed is at the place of the first with this name.
use Rattle.std.proofs.Common.{sym, ◌∙◌}
use Rattle.memberlist_member.specs.Losing.{is_lost}
use Rattle.memberlist_member.proofs.Taking.{at_place, no_place}
use Rattle.memberlist_member.proofs.lost.LostMembers.remove.Goals as goal

pub returns-in-Some : goal.returns-in-Some
returns-in-Some c = c.remove.ensures.items
    ∙ (at_place (is_lost c.args.name.now) c.args.self.now.list.items c.in-Some.place c.remove.result (sym c.in-Some.ensures)).left

pub returns-in_default : goal.returns-in_default
returns-in_default c = sym (no_place (is_lost c.args.name.now) c.args.self.now.list.items (sym c.in_default.ensures)).left
