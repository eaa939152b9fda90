-- The first time at which one of several suspects is due.
use Rattle.std.proofs.Common.{◌≡◌, ℕ, ◌+◌, ◌<◌, ◌≤◌, min, List, length, get_or, Option, Some, None, sym, subst, ap, ◌∙◌, ◌⊎◌, inl, inr, ⊎_elim, arith}
use Rattle.std.proofs.lemmas.Bool.{cases_lt}
use Rattle.std.proofs.lemmas.List.{get_or_default}
use Rattle.memberlist_view.specs.Told.{ViewValue}
use Rattle.memberlist_member.specs.Probes.{first_of}
use Rattle.memberlist_member.specs.Suspects.{IsDueBy, IsNotBefore}
use Rattle.memberlist_member.specs.declared.suspicions.Suspect.{Suspect}

pub record IsFirstAt (view : ViewValue) (xs : List Suspect) (n first : ℕ) : Type 0 where
  pub at : ℕ
  pub who : Suspect
  pub before : at < n
  pub is : get_or xs at who ≡ who
  pub due : IsDueBy view who first
  pub others : (k : ℕ) (d : Suspect) → k < n → IsNotBefore view first (get_or xs k d)

-- of the first so many of them; none if there are none
abbrev pub IsFirstSoFar : ViewValue → List Suspect → ℕ → Option ℕ → Type 0
IsFirstSoFar view xs n None = n ≡ 0
IsFirstSoFar view xs n (Some first) = IsFirstAt view xs n first

place_same : (xs : List Suspect) (n k : ℕ) (s d : Suspect) → n < length xs → s ≡ get_or xs n s → k ≡ n → s ≡ get_or xs k d
place_same xs n k s d within is same = is ∙ get_or_default xs n s d within ∙ ap (λ j. get_or xs j d) (sym same)

later_first : (view : ViewValue) (first one : ℕ) (s : Suspect) → one ≤ first → IsNotBefore view first s → IsNotBefore view one s
later_first view first one s less late = record { due = late.due; is = late.is; late = omega (arith, less, late.late) }

-- one more
pub first_more : (view : ViewValue) (xs : List Suspect) (n : ℕ) (first : Option ℕ) (s : Suspect) (due : ℕ)
    → IsFirstSoFar view xs n first → n < length xs → s ≡ get_or xs n s → IsDueBy view s due → IsFirstAt view xs (n + 1) (first_of first due)
first_more view xs n None s due none within is by = record {
  at = n;
  who = s;
  before = omega arith;
  is = sym is;
  due = by;
  others = λ k d less. subst (IsNotBefore view due) (place_same xs n k s d within is (omega (arith, less, none)))
      (record { due = due; is = by; late = omega arith });
}
first_more view xs n (Some first) s due so_far within is by =
    let rest : (one : ℕ) → one ≤ first → one ≤ due → (k : ℕ) (d : Suspect) → k < n + 1 → IsNotBefore view one (get_or xs k d) =
    λ one before_first before_due k d less. ⊎_elim
    (λ below. later_first view first one (get_or xs k d) before_first (so_far.others k d below))
    (λ same. subst (IsNotBefore view one) (place_same xs n k s d within is same) (record { due = due; is = by; late = before_due }))
    (below_or_last k n less) in
    ⊎_elim
    (λ sooner. subst (IsFirstAt view xs (n + 1)) (sym (min_left first due sooner)) (record {
      at = so_far.at;
      who = so_far.who;
      before = omega (arith, so_far.before);
      is = so_far.is;
      due = so_far.due;
      others = rest first (omega arith) sooner;
    }))
    (λ later. subst (IsFirstAt view xs (n + 1)) (sym (min_right first due later)) (record {
      at = n;
      who = s;
      before = omega arith;
      is = sym is;
      due = by;
      others = rest due later (omega arith);
    }))
    (either first due) where
      below_or_last : (k m : ℕ) → k < m + 1 → (k < m) ⊎ (k ≡ m)
      below_or_last k m less = ⊎_elim inl (λ last. inr (omega (arith, less, last))) (cases_lt k m)

      either : (a b : ℕ) → (a ≤ b) ⊎ (b ≤ a)
      either a b = ⊎_elim (λ less. inl (omega (arith, less))) inr (cases_lt a b)

      min_left : (a b : ℕ) → a ≤ b → min a b ≡ a
      min_left a b less = omega (arith, less)

      min_right : (a b : ℕ) → b ≤ a → min a b ≡ b
      min_right a b less = omega (arith, less)
