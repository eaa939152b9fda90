-- Which views a new capture may go on with.
use Rattle.std.proofs.Common.{◌≡◌, ◌<◌, ◌≤◌, ◌+◌, ◌⊎◌, inl, inr, ℕ, List, None, Option, Some, IfNone, length, slice_index_or, sym, ap, subst, arith, refl, ◌∙◌}
use Rattle.std.proofs.lemmas.Option.{slice_get_cases, slice_get_read}
use Rattle.std.proofs.Math.Nat.{eq-or-lt_of_le}
use Rattle.std.specs.List.{slice_get}
use Rattle.std.specs.Option.{option_map}
use Rattle.swimwatch.specs.declared.listening.seating.Followed.{Followed}
use Rattle.swimwatch.specs.declared.listening.seating.Seating.{Seating}
use Rattle.swimwatch.specs.Seating.{IsFree}

pub not_yet : (s : Seating) (items : List Followed) (index : ℕ) (f : Followed) → items ≡ s.views.items → index < length items
    → f ≡ slice_index_or items index f → ¬ (f.open ≡ 0) → ((other : ℕ) → other < index → ¬ IsFree s other)
    → (other : ℕ) → other < index + 1 → ¬ IsFree s other
not_yet s items index f same inside is busy before other below free =
    cases (eq-or-lt_of_le (let le : other ≤ index = omega (arith, below) in le)) where
      cases : (other ≡ index) ⊎ (other < index) → ⊥
      cases (inl at) =
          let there = slice_get_read items (length items) index f refl inside is in
          let now = ap (λ n. option_map (λ x. x.open) (slice_get s.views.items n)) at in
          let here = ap (λ l. option_map (λ x. x.open) (slice_get l index)) same in
          let zero_is : Some f.open ≡ Some 0 = sym (ap (option_map (λ x. x.open)) there) ∙ here ∙ sym now ∙ free in
          busy (cc (zero_is))
      cases (inr lower) = before other lower free

pub none_free : (s : Seating) (items : List Followed) (index : ℕ) (best : Option ℕ) → items ≡ s.views.items → length items ≤ index
    → (best ≡ None → (other : ℕ) → other < index → ¬ IsFree s other) → IfNone best ((other : ℕ) → ¬ IsFree s other)
none_free s items index None same ends before = λ other free. cases other free (slice_get_cases s.views.items other) where
  cases : (other : ℕ) → IsFree s other → (slice_get s.views.items other ≡ slice_get s.views.items other)
      × (((x : Followed) × (other < length s.views.items) × (slice_get s.views.items other ≡ Some x)
      × (slice_index_or s.views.items other x ≡ x)) ⊎ ((length s.views.items ≤ other) × (slice_get s.views.items other ≡ None))) → ⊥
  cases other free (_, inl (x, inside, is, at)) =
      before refl other (let below : other < index = omega (arith, inside, ap length same, ends) in below) free
  cases other free (_, inr (past, is)) =
      let none : None ≡ Some 0 = sym (ap (option_map (λ x. x.open)) is) ∙ free in
      absurd (cc (none))
none_free s items index (Some b) same ends before = tt
