use Rattle.std.proofs.Common.{◌≡◌, ◌||◌, ◌++◌, ◌∷◌, [], Bool, true, false, List, if◌then◌else◌, sym, ap, subst, refl, rules}
use Rattle.std.proofs.lemmas.Result.{on_ok_weaker}
use Rattle.memberlist_view.specs.declared.heard.Heard.{Heard}
use Rattle.memberlist_view.specs.Heard.{about}
use Rattle.memberlist_view.specs.Member.{heeded, is_alive, is_heeded, is_known}
use Rattle.memberlist_view.specs.Told.{IsViewOf, entry_of}
use Rattle.memberlist_view.proofs.view.View.hear_as_member.Goals as goal
use Rattle.memberlist_view.proofs.view.View.hear_as_member.Goals.{then-is_alive, else-is_alive}

either : (a b : Bool) → b ≡ true → (a || b) ≡ true
either true b h = refl
either false b h = h

one : (a : Bool) (b : Bool) → a ≡ true → (a || b) ≡ true
one true b h = refl
one false b h = cc h

pub returns-then-knows-clause-view : goal.returns-then-knows-clause-view
returns-then-knows-clause-view c =
    let is : is_heeded c.args.self.now c.args.heard.now ≡ true = elim c.if-is_alive.branch [
      | then-is_alive w ↦ one (is_alive c.args.heard.now.said)
          (is_known (entry_of c.args.self.now (about c.args.heard.now.said))) (search rules)
      | else-is_alive w ↦ either (is_alive c.args.heard.now.said)
          (is_known (entry_of c.args.self.now (about c.args.heard.now.said))) (search rules)
    ] in
    let all : heeded c.args.self.now c.args.heard.now ≡ c.args.heard.now ∷ [] = ap (λ b. if b then c.args.heard.now ∷ [] else []) is in
    on_ok_weaker c.hear.result (λ h past v. subst
    (λ (l : List Heard). IsViewOf c.hear.new.self (past ++ l)) (sym all)
    (h past v)) c.hear.ensures.view
