use Rattle.std.proofs.Common.{ap, subst, sym, ◌∙◌}
use Rattle.std.specs.List.{Contains}
use Rattle.memberlist_member.specs.Saying.{said_in_table}
use Rattle.memberlist_member.specs.Showing.HasGround.{is_told}
use Rattle.memberlist_member.proofs.member.Member.merge.Goals as goal

pub returns-clause-goes : goal.returns-clause-goes
returns-clause-goes g c told among first word before =
    c.hear.ensures.goes told (is_told (subst (Contains told) (sym (c.in_ok-packet.ensures ∙ ap (λ n. said_in_table n c.args.claim) c.name.ensures)) among)) first word before
