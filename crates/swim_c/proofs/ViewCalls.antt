-- Calls on a view's handle, by what the handle had, and what a view heard.
use Rattle.std.proofs.Common.{◌≡◌, ◌∙◌, ℕ, Option, Some, None, sym, subst}
use Rattle.std.specs.Prelude.{MatchOption}
use Rattle.memberlist_view.specs.declared.heard.Heard.{Heard}
use Rattle.memberlist_view.specs.Told.{ViewValue}
use Rattle.swim_c.specs.declared.view.held.HeldView.{HeldView}
use Rattle.swim_c.specs.declared.view.shown.Shown.{Shown}
use Rattle.swim_c.specs.Views.{HearDone, Hears, OnSameView, OnView}

pub on_view : (old new : Option HeldView) (Without : Type 0) (Does : ViewValue → ViewValue → Type 0) (before after : HeldView)
    → old ≡ Some before → new ≡ Some after → Does before.view after.view → OnView old new Without Does
on_view old new Without Does before after was is does =
    subst (λ (o : Option HeldView). OnView o new Without Does) (sym was)
    (subst (λ (n : Option HeldView). OnView (Some before) n Without Does) (sym is) does)

pub on_same_view : (old new : Option HeldView) (Without : Type 0) (Tells : ViewValue
    → Type 0) (held : HeldView) → old ≡ Some held → new ≡ Some held
    → Tells held.view → OnSameView old new Without Tells
on_same_view old new Without Tells held was is told = record {
  same = is ∙ sym was;
  tells = subst (λ (o : Option HeldView). MatchOption o Without (λ h. Tells h.view)) (sym was) told;
}

-- what was heard with status 0
pub heard_then : (heard : Heard) (status event : ℕ) (before after : ViewValue) (old new : Shown) → status ≡ 0
    → HearDone heard status event before after old new → Hears heard event before after old new
heard_then heard status event before after old new is (HearDone.done zero h) = h
heard_then heard status event before after old new is (HearDone.memory ten h) = absurd (cc (is, ten))

-- what was read, if nothing was left, and if something was
pub read_none : {A : Type 0} (o : Option A) (P : Type 0) (Q : A → Type 0) → o ≡ None → MatchOption o P Q → P
read_none None P Q is h = h
read_none (Some a) P Q is h = absurd cc

pub read_some : {A : Type 0} (o : Option A) (a : A) (P : Type 0) (Q : A → Type 0) → o ≡ Some a → MatchOption o P Q → Q a
read_some o a P Q is h = subst (λ o. MatchOption o P Q) is h
