use Rattle.std.proofs.Common.{◌≡◌, ◌≤◌, OnOk, subst, sym}
use Rattle.std.specs.List.{count_by}
use Rattle.memberlist_member.specs.Beginning.{IsBegun}
use Rattle.memberlist_member.specs.Suspects.{GrowsByAtMost, is_suspect}
use Rattle.memberlist_member.specs.declared.suspicions.Suspect.{Suspect}
use Rattle.memberlist_member.proofs.Begun.{all_added, times_some}
use Rattle.memberlist_member.proofs.Suspected.{grows_by_one, is_there}
use Rattle.memberlist_member.proofs.Watching.{watched_more}
use Rattle.memberlist_member.proofs.member.Member.watch.Goals as goal

begun : (c : goal.After-add) → IsBegun c.args.self.now.settings c.begun-suspicion.result
begun c =
    let (thousandths, digits, few, least) = c.begun-suspicion.ensures.least in
    subst (λ config. IsBegun config c.begun-suspicion.result) c.config-config.ensures.same (record {
      members = c.members.result;
      thousandths = thousandths;
      digits = digits;
      few = few;
      wanted = c.begun-suspicion.ensures.wanted;
      least = least;
      most = c.begun-suspicion.ensures.most;
      ordered = subst (λ n. c.begun-suspicion.result.least ≤ n) (sym c.begun-suspicion.ensures.most)
          (times_some c.config-config.result.suspicion_max_timeout_mult c.begun-suspicion.result.least c.config-config.ensures.sound.multipliers.most);
    })

abbrev it : goal.After-self-1 → Suspect
it c = record { name = c.in_ok-copy.copy; suspicion = c.begun-suspicion.result }

pub invariant_of-self : goal.invariant_of-self
invariant_of-self c =
    let m = c.args.self.now in
    let it : Suspect = record { name = c.in_ok-copy.copy; suspicion = c.begun-suspicion.result } in
    record {
      limited = m.limited;
      viewed = m.viewed;
      begun = all_added (λ s. IsBegun m.settings s.suspicion) m.suspicions.list.items c.add.new.self.list.items it c.add.result (begun c)
          c.add.ensures.added c.add.ensures.refused m.begun;
      watched = watched_more m.view m.suspicions.list.items c.add.new.self.list.items it c.add.result
          c.add.ensures.added c.add.ensures.refused m.watched;
    }

pub returns-clause-ready : goal.returns-clause-ready
returns-clause-ready c =
    subst (λ n. OnOk c.add.result (1 ≤ count_by (is_suspect n) c.add.new.self.list.items)) c.in_ok-copy.ensures
    (is_there c.args.self.now.suspicions.list.items c.add.new.self.list.items (it c) c.add.result c.add.ensures.added)

pub returns-clause-grows : goal.returns-clause-grows
returns-clause-grows c =
    subst (λ n. GrowsByAtMost n c.args.self.now.suspicions.list.items c.add.new.self.list.items) c.in_ok-copy.ensures
    (grows_by_one c.args.self.now.suspicions.list.items c.add.new.self.list.items (it c) c.add.result
    c.add.ensures.added c.add.ensures.refused
    (subst (λ n. count_by (is_suspect n) c.args.self.now.suspicions.list.items ≡ 0) (sym c.in_ok-copy.ensures) c.if-has.ensures.none))
