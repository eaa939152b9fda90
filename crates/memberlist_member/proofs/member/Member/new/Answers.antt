use Rattle.memberlist_member.specs.Beginning.{IsBegun}
use Rattle.memberlist_member.proofs.Begun.{none_begun}
use Rattle.memberlist_member.proofs.Watching.{none_watched}
use Rattle.memberlist_member.proofs.member.Member.new.Goals as goal

pub invariant_of-member-clause-begun : goal.invariant_of-member-clause-begun
invariant_of-member-clause-begun g c =
    none_begun (λ s. IsBegun c.args.settings s.suspicion) c.new-6.result.list.items c.new-6.ensures

pub invariant_of-member-clause-watched : goal.invariant_of-member-clause-watched
invariant_of-member-clause-watched g c = none_watched c.new-2.result c.new-6.result.list.items c.new-2.ensures.empty
