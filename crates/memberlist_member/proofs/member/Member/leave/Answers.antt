use Rattle.std.proofs.Common.{inr, subst, sym, true}
use Rattle.std.specs.List.{Contains}
use Rattle.memberlist_member.specs.Saying.{said_of}
use Rattle.memberlist_member.specs.Showing.Reaches.{here}
use Rattle.memberlist_member.proofs.Showing.{went_on}
use Rattle.memberlist_member.proofs.member.Member.leave.Goals as goal

pub returns-then-self-clause-goes : goal.returns-then-self-clause-goes
returns-then-self-clause-goes g c told among = here

pub returns-in_err-packet-clause-goes : goal.returns-in_err-packet-clause-goes
returns-in_err-packet-clause-goes g c told among = here

pub returns-in_err-hear_itself-clause-goes : goal.returns-in_err-hear_itself-clause-goes
returns-in_err-hear_itself-clause-goes g c told among =
    went_on told c.args.self.now c.hear_itself.new.self
    (c.hear_itself.ensures.goes told (inr (subst (λ p. Contains told (said_of p true)) (sym c.in_ok-packet.ensures) among)))
    c.hear_itself.ensures.own

pub returns-clause-goes : goal.returns-clause-goes
returns-clause-goes g c told among =
    went_on told c.args.self.now c.hear_itself.new.self
    (c.hear_itself.ensures.goes told (inr (subst (λ p. Contains told (said_of p true)) (sym c.in_ok-packet.ensures) among)))
    c.hear_itself.ensures.own
