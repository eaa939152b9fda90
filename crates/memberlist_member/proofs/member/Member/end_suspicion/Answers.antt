use Rattle.std.proofs.Common.{arith}
use Rattle.memberlist_member.specs.Beginning.{IsBegun}
use Rattle.memberlist_member.specs.Suspects.{IsOver, is_suspect}
use Rattle.memberlist_member.proofs.Begun.{all_removed}
use Rattle.memberlist_member.proofs.Watching.{any_counted, watched_others}
use Rattle.memberlist_member.proofs.member.Member.end_suspicion.Goals as goal

pub invariant_of-self : goal.invariant_of-self
invariant_of-self g c =
    let m = c.declare_dead.new.self in
    record {
      limited = m.limited;
      viewed = m.viewed;
      begun = all_removed (λ s. IsBegun m.settings s.suspicion) (is_suspect c.args.name.now) m.suspicions.list.items
          c.remove.new.self.list.items c.remove.ensures.removed m.begun;
      watched = watched_others m.view m.suspicions.list.items c.remove.new.self.list.items c.args.name.now
          c.in_ok-declare_dead.ensures.ends c.remove.ensures.others m.watched;
    }

pub returns-clause-fewer : goal.returns-clause-fewer
returns-clause-fewer g c =
    let m = c.args.self.now in
    let some = any_counted c.args.name.now m.suspicions.list.items (IsOver m.view m.time) c.requires.over in
    omega (arith, some, c.declare_dead.ensures.grows, c.remove.ensures.fewer)
