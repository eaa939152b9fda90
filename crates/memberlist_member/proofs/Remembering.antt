-- The member's view is that of what was heard.
use Rattle.std.proofs.Common.{◌≡◌, ◌≤◌, ℕ, zero, suc, List, [], ◌∷◌, ◌++◌, Bool, true, false, subst, sym, arith, if◌then◌else◌}
use Rattle.std.proofs.Math.Logic.{∥∥₁_map}
use Rattle.std.specs.List.{All}
use Rattle.std.proofs.lemmas.List.Elements.{All-append, All-filter}
use Rattle.std.specs.Prelude.{Option, Result, Ok, Err, OnOk, OnErr}
use Rattle.std.specs.declared.alloc.AllocError.{AllocError}
use Rattle.memberlist_view.specs.declared.event.Event.{Event}
use Rattle.memberlist_view.specs.declared.heard.Heard.{Heard}
use Rattle.memberlist_view.specs.Member.{about_others, heeded, is_heeded}
use Rattle.memberlist_view.specs.Told.{IsViewOf, ViewValue}
use Rattle.memberlist_member.specs.Viewing.{IsViewUntil}

pub begun : (view : ViewValue) (now : ℕ) → IsViewOf view [] → IsViewUntil view now
begun view now is = ∣ ([], (is, λ k d below. absurd (omega (arith, below)))) ∣₁

pub later : (view : ViewValue) (now then_ : ℕ) → now ≤ then_ → IsViewUntil view now → IsViewUntil view then_
later view now then_ le viewed = ∥∥₁_map viewed (λ p. (p.0, (p.1.0, λ k d below. omega (arith, le, p.1.1 k d below))))

pub unchanged : (old new : ViewValue) (now : ℕ) → new ≡ old → IsViewUntil old now → IsViewUntil new now
unchanged old new now same viewed = subst (λ v. IsViewUntil v now) (sym same) viewed

one : (h : Heard) (now : ℕ) → h.time ≤ now → All (λ g. g.time ≤ now) (h ∷ [])
one h now le zero d less = le
one h now le (suc k) d less = absurd (omega (arith, less))

heeded_soon : (view : ViewValue) (h : Heard) (now : ℕ) → h.time ≤ now → All (λ g. g.time ≤ now) (heeded view h)
heeded_soon view h now le = cases (is_heeded view h) where
  cases : (b : Bool) → All (λ g. g.time ≤ now) (if b then h ∷ [] else [])
  cases true = one h now le
  cases false = λ k d below. absurd (omega (arith, below))

pub heard_more : (old new : ViewValue) (h : Heard) (now : ℕ) → h.time ≤ now
    → ((past : List Heard) → IsViewOf old past → IsViewOf new (past ++ heeded old h))
    → IsViewUntil old now → IsViewUntil new now
heard_more old new h now le step viewed = ∥∥₁_map viewed (λ p.
    (p.0 ++ heeded old h, (step p.0 p.1.0, All-append (λ g. g.time ≤ now) p.0 (heeded old h) p.1.1 (heeded_soon old h now le))))

pub forgot : (old new : ViewValue) (time now : ℕ)
    → ((past : List Heard) → IsViewOf old past → IsViewOf new (about_others old time past))
    → IsViewUntil old now → IsViewUntil new now
forgot old new time now step viewed = ∥∥₁_map viewed (λ p.
    (about_others old time p.0, (step p.0 p.1.0, All-filter _ (λ g. g.time ≤ now) p.0 p.1.1)))

pub after_hearing : (old new : ViewValue) (h : Heard) (now : ℕ) (result : Result (Option Event) AllocError) → h.time ≤ now
    → OnOk result ((past : List Heard) → IsViewOf old past → IsViewOf new (past ++ heeded old h)) → OnErr result (new ≡ old)
    → IsViewUntil old now → IsViewUntil new now
after_hearing old new h now (Ok event) le step same viewed = heard_more old new h now le step viewed
after_hearing old new h now (Err error) le step same viewed = unchanged old new now same viewed
