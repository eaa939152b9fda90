use Rattle.std.proofs.Common.{◌∷◌, sym, subst}
use Rattle.memberlist_probes.specs.Points.{IsPointOf}
use Rattle.memberlist_probes.proofs.Narrowing.{of_either, of_host}
use Rattle.memberlist_probes.proofs.point.Point.after.Goals as goal

pub returns-in-Either : goal.returns-in-Either
returns-in-Either c = λ packets is. subst (IsPointOf ((c.args.from, c.args.to) ∷ packets)) (sym c.narrowed.ensures)
    (of_either packets _ _ (c.args.from, c.args.to) _ _ c.is_end.ensures c.is_end-in-Either.ensures
    (subst (IsPointOf packets) c.in-Either.is is))

pub returns-in-At : goal.returns-in-At
returns-in-At c = λ packets is. subst (IsPointOf ((c.args.from, c.args.to) ∷ packets)) (sym c.kept.ensures)
    (of_host packets _ (c.args.from, c.args.to) _ c.is_end-in-At.ensures (subst (IsPointOf packets) c.in-At.is is))
