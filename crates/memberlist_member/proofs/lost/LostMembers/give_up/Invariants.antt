-- What is left to be given up is what was to be at first; each turn gives up one.
use Rattle.std.proofs.Common.{◌≡◌, ◌+◌, length}
use Rattle.memberlist_member.specs.Lists.{past_all}
use Rattle.memberlist_member.specs.Losing.{is_given_up}
use Rattle.memberlist_member.proofs.lost.LostMembers.give_up.Given as goal

abbrev pub invariant-loop : goal.invariant-loop
invariant-loop l = record {
  left : past_all (is_given_up l.now) l.self.list.items ≡ past_all (is_given_up l.now) l.fn.self.list.items;
  count : length l.self.list.items + l.counter ≡ length l.fn.self.list.items;
}
