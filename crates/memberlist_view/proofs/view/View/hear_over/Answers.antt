use Rattle.std.proofs.Common.{Some, None, IsSome, refl, sym, subst, ◌++◌, ◌∷◌, []}
use Rattle.std.proofs.lemmas.Result.{on_ok_weaker, on_err_weaker}
use Rattle.memberlist_view.specs.Rules.{Change}
use Rattle.memberlist_view.specs.Shown.{told}
use Rattle.memberlist_view.specs.Told.{IsViewOf, change_of}
use Rattle.memberlist_view.proofs.Viewing.{IsViewOf-after}
use Rattle.memberlist_view.proofs.view.View.hear_over.Goals as goal

pub returns-clause-view : goal.returns-clause-view
returns-clause-view c =
    on_ok_weaker c.take.result (λ e past v.
    subst (λ w. IsViewOf w (past ++ c.args.heard.now ∷ [])) (sym e)
    (IsViewOf-after c.args.self.now past c.args.heard.now v)) c.take.ensures.step

is_told : (what : Change) → IsSome what → IsSome (told what)
is_told None h = h
is_told (Some p) h = refl

pub returns-clause-asks : goal.returns-clause-asks
returns-clause-asks c = on_err_weaker c.take.result (is_told (change_of c.args.self.now c.args.heard.now)) c.take.ensures.asks
