use Rattle.std.proofs.Common.{◌≡◌, true, sym, ◌∙◌, subst}
use Rattle.memberlist_probes.specs.Telling.{may_be}
use Rattle.memberlist_probes.proofs.Excluding.{sound, exact}
use Rattle.memberlist_probes.proofs.leg.Leg.may_be.Goals as goal

pub returns-clause-sound : goal.returns-clause-sound
returns-clause-sound c = λ clocks world obeys shows is.
    c.is_left.ensures ∙ subst (λ told. may_be c.args.self.now told ≡ true) is (sound clocks world c.args.self.now obeys shows)

pub returns-clause-exact : goal.returns-clause-exact
returns-clause-exact c = λ clocks world obeys shows complete is.
    exact clocks world c.args.self.now c.args.explanation obeys shows complete (sym c.is_left.ensures ∙ is)
