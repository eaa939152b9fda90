use Rattle.std.proofs.Common.{◌≡◌, ◌≤◌, Some, IfSome, refl, subst, sym, ◌∙◌}
use Rattle.memberlist_member.proofs.member.Member.end_probe.Goals as goal

pub returns-clause-goes : goal.returns-clause-goes
returns-clause-goes g c told heard first word before =
    let was : c.args.self.now.probe ≡ Some c.in-Some.probe = sym c.take.ensures.value ∙ c.in-Some.is in
    let over : c.in-Some.probe.due ≤ c.args.self.now.time = subst (λ o. IfSome o (λ p. p.due ≤ c.args.self.now.time)) was c.requires.over in
    c.suspect_probed.ensures.goes told (heard _ (c.in-Some.probe, was, over, refl)) first word before
