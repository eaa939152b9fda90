use Rattle.std.proofs.Common.{◌∙◌, length, sym, ap, subst, arith}
use Rattle.tiered_vec.specs.Tiers.{items}
use Rattle.swim_table.specs.Table.{IsAscending}
use Rattle.swim_table.specs.Join.{put_each}
use Rattle.swim_table.proofs.Lookups.{IsAscending-put}
use Rattle.swim_table.proofs.placing.put_entries.Goals as goal

pub loop-other-preserved : goal.loop-other-preserved
loop-other-preserved c =
    let old = items c.loop-other.entries in
    let is = c.put_in_room.ensures.items in
    let next = c.in-Some.ensures.steps in
    let fewer = ap length next in
    record {
      whole = ap (λ t. put_each t c.next.new.self) is ∙ sym (ap (put_each old) next) ∙ c.loop-other.invariant.whole;
      ascending = subst IsAscending (sym is) (IsAscending-put old c.in-Some.other c.loop-other.invariant.ascending);
      room = omega (arith, fewer, c.loop-other.invariant.room, c.put_in_room.ensures.room);
    }
