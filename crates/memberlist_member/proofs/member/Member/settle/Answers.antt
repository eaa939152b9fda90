use Rattle.std.proofs.Common.{◌≡◌, false, rules}
use Rattle.memberlist_member.specs.Beginning.{IsBegun}
use Rattle.memberlist_member.specs.Suspects.{is_suspect, shows_suspect}
use Rattle.memberlist_member.proofs.Begun.{all_removed}
use Rattle.memberlist_member.proofs.Watching.{watched_others}
use Rattle.memberlist_member.proofs.member.Member.settle.Goals as goal

pub invariant_of-self : goal.invariant_of-self
invariant_of-self c =
    let m = c.args.self.now in
    let hidden : shows_suspect m.view c.name-name.result.now ≡ false = search rules in
    record {
      limited = m.limited;
      viewed = m.viewed;
      begun = all_removed (λ s. IsBegun m.settings s.suspicion) (is_suspect c.name-name.result.now) m.suspicions.list.items
          c.remove.new.self.list.items c.remove.ensures.removed m.begun;
      watched = watched_others m.view m.suspicions.list.items c.remove.new.self.list.items c.name-name.result.now hidden
          c.remove.ensures.others m.watched;
    }
