use Rattle.std.proofs.Common.{List}
use Rattle.std.specs.List.{All, Contains}
use Rattle.memberlist_view.specs.declared.heard.Said.{Said}
use Rattle.memberlist_member.specs.Saying.{said_in_table}
use Rattle.memberlist_member.specs.Showing.{GoesBy, KeepsLines}
use Rattle.memberlist_member.specs.Staying.{Adds, Stays}
use Rattle.memberlist_member.proofs.member.Member.merge_all.Given as goal

abbrev pub invariant-loop-claim : goal.invariant-loop-claim
invariant-loop-claim g l = record {
  adds : Adds 0 0 0 l.initial.self l.self;
  stays : Stays l.initial.self l.self;
  goes : (told : List Said) → All (λ each. Contains told (said_in_table l.initial.self.own.name each)) l.fn.claims.items
      → GoesBy told l.initial.self l.self;
  lines : KeepsLines l.initial.self l.self;
  left : All (Contains l.fn.claims.items) l.claim-iterator.rest.items;
}
