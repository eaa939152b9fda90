use Rattle.std.proofs.Common.{subst, sym}
use Rattle.memberlist_member.specs.Showing.{IsGround}
use Rattle.memberlist_member.proofs.member.Member.hear.Goals as goal

pub returns-clause-goes : goal.returns-clause-goes
returns-clause-goes g c told ground first word before =
    c.hear_of.ensures.goes told (subst (IsGround told c.args.self.now) (sym c.in_ok-heard.ensures.said) ground) first word before
