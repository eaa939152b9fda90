-- What a binary search among blocks finds.
use Rattle.std.proofs.Common.{◌≡◌, ℕ, zero, suc, ◌+◌, ◌-◌, ◌<◌, ◌≤◌, ◌⊎◌, inl, inr, true, false, List, [], ◌∷◌, HoldsAt}
use Rattle.std.proofs.Common.{length, get_or, refl, sym, ap, subst, ◌∙◌, arith, true≢false}
use Rattle.std.proofs.lemmas.Bool.{cases_lt}
use Rattle.std.specs.declared.cmp.Ordering.{Ordering}
use Rattle.std.specs.declared.cmp.Ordering.TheVariants.{Less, Equal, Greater}
use Rattle.std.specs.List.{AllWithin}
use Rattle.std.specs.List.Sorted.{IsNonDecreasingBy, IsPartitionPoint}
use Rattle.std.specs.Ordering.{is_gt, ordering_index}
use Rattle.std.specs.Fn.{AlwaysReturns, Called}
use denote.Param.Members.{Mut}
use Rattle.tiered_vec.specs.Tiers.{flatten, start, block_at}
use Rattle.tiered_vec.proofs.Flat.{placed, start-suc, start-all}

top : (o : Ordering) → 2 ≤ ordering_index o → o ≡ Greater
top Less h = absurd (omega arith)
top Equal h = absurd (omega arith)
top Greater h = refl

bottom : (o : Ordering) → ordering_index o ≤ 0 → o ≡ Less
bottom Less h = refl
bottom Equal h = absurd (omega arith)
bottom Greater h = absurd (omega arith)

is_Greater : (o : Ordering) → is_gt o ≡ true → o ≡ Greater
is_Greater Less h = absurd (true≢false (sym h))
is_Greater Equal h = absurd (true≢false (sym h))
is_Greater Greater h = refl

-- one call of a closure that always returns a result with P
pub answers_next : {F X R : Type 0} (g : Mut F X R) (P : X → R → Type 0) (f : F) (a : X) (r : R) (f' : F) → Called g f a r f'
    → AlwaysReturns g P f → P a r × AlwaysReturns g P f'
answers_next g P f a r f' c h = ((h.at (a ∷ []) r f' c).0, record { at = λ xs. (h.at (a ∷ xs) r f' c).1 })

module _ {X : Type 0} (ord : X → Ordering) (s : List (List X)) where
  -- what is searched for is in a block from low on and before high, if anywhere
  pub record Narrowed (low high : ℕ) : Type 0 where
    pub above : (low ≡ 0) ⊎ HoldsAt (λ y. is_gt (ord y) ≡ false) (flatten s) (start s low)
    pub below : (high ≡ length s) ⊎ HoldsAt (λ y. is_gt (ord y) ≡ true) (flatten s) (start s high)

  pub Narrowed-whole : Narrowed 0 (length s)
  Narrowed-whole = record { above = inl refl; below = inl refl }

  pub Narrowed-lower : (low mid high : ℕ) (x : X) → Narrowed low high → ((d : X) → x ≡ get_or (flatten s) (start s mid) d)
      → is_gt (ord x) ≡ true → Narrowed low mid
  Narrowed-lower low mid high x n read e = record { above = n.above; below = inr (λ d. subst (λ y. is_gt (ord y) ≡ true) (read d) e) }

  pub Narrowed-upper : (low mid high : ℕ) (x : X) → Narrowed low high → ((d : X) → x ≡ get_or (flatten s) (start s mid) d)
      → is_gt (ord x) ≡ false → Narrowed mid high
  Narrowed-upper low mid high x n read e = record { above = inr (λ d. subst (λ y. is_gt (ord y) ≡ false) (read d) e); below = n.below }

  pub found_in_block : (k j : ℕ) → k < length s → j < length (block_at s k) → HoldsAt (λ y. ord y ≡ Equal) (block_at s k) j
      → HoldsAt (λ y. ord y ≡ Equal) (flatten s) (start s k + j)
  found_in_block k j h l e d = subst (λ y. ord y ≡ Equal) (sym (placed s k j d h l)) (e d)

  module _ (k j : ℕ) (h : k < length s) (l : j ≤ length (block_at s k)) (filled : 0 < length (block_at s k)) (n : Narrowed k (k + 1))
      (part : IsNonDecreasingBy (λ y. ordering_index (ord y)) (block_at s k)
      → IsPartitionPoint (λ y. ord y ≡ Less) (λ y. ord y ≡ Greater) (block_at s k) j)
      (up : IsNonDecreasingBy (λ y. ordering_index (ord y)) (flatten s)) where
    suc-one : k + 1 ≡ suc k
    suc-one = omega arith

    next_start : start s (k + 1) ≡ start s k + length (block_at s k)
    next_start = ap (start s) suc-one ∙ start-suc s k h

    up_in_block : start s k + length (block_at s k) ≤ length (flatten s) → IsNonDecreasingBy (λ y. ordering_index (ord y)) (block_at s k)
    up_in_block in' i i2 d le lt =
        subst (λ y. ordering_index (ord y) ≤ ordering_index (ord (get_or (block_at s k) i2 d))) (placed s k i d h (omega arith))
        (subst (λ y. ordering_index (ord (get_or (flatten s) (start s k + i) d)) ≤ ordering_index (ord y)) (placed s k i2 d h lt)
        (up (start s k + i) (start s k + i2) d (omega arith) (omega arith)))

    module _ (in' : start s k + length (block_at s k) ≤ length (flatten s)) where
      parted : IsPartitionPoint (λ y. ord y ≡ Less) (λ y. ord y ≡ Greater) (block_at s k) j
      parted = part (up_in_block in')

      -- below the place each element is `Less`
      pub less_below : AllWithin (λ y. ord y ≡ Less) (flatten s) 0 (start s k + j)
      less_below i d from to = by_place j refl
        where
          by_place : (m : ℕ) → m ≡ j → ord (get_or (flatten s) i d) ≡ Less
          by_place zero e = elim n.above [
            | inl first ↦ let none : start s k ≡ 0 = ap (start s) first in absurd (omega arith)
            | inr not_above ↦
                let here : ord (get_or (flatten s) (start s k + 0) d) ≡ Greater =
                subst (λ y. ord y ≡ Greater) (sym (placed s k 0 d h filled)) (parted.1 0 d (omega arith) filled) in
                let at : start s k + 0 ≡ start s k = omega arith in
                absurd (true≢false (sym (ap is_gt (subst (λ q. ord (get_or (flatten s) q d) ≡ Greater) at here)) ∙ not_above d))
          ]
          by_place (suc m) e =
              let last : ord (get_or (flatten s) (start s k + m) d) ≡ Less =
              subst (λ y. ord y ≡ Less) (sym (placed s k m d h (omega arith))) (parted.0 m d (omega arith) (omega arith)) in
              bottom _
              (subst (λ (o : Ordering). ordering_index (ord (get_or (flatten s) i d)) ≤ ordering_index o) last
              (up i (start s k + m) d (omega arith) (omega arith)))

      -- and from there on `Greater`
      pub greater_above : AllWithin (λ y. ord y ≡ Greater) (flatten s) (start s k + j) (length (flatten s))
      greater_above i d from to = elim (cases_lt i (start s k + length (block_at s k))) [
        | inl inside ↦
            let at : start s k + (i - start s k) ≡ i = omega arith in
            subst (λ q. ord (get_or (flatten s) q d) ≡ Greater) at
            (subst (λ y. ord y ≡ Greater) (sym (placed s k (i - start s k) d h (omega arith)))
            (parted.1 (i - start s k) d (omega arith) (omega arith)))
        | inr beyond ↦ elim n.below [
          | inl last ↦ let all : start s (k + 1) ≡ length (flatten s) = ap (start s) last ∙ start-all s
              in absurd (omega (arith, all, next_start))
          | inr above ↦
              top _
              (subst (λ (o : Ordering). ordering_index o ≤ ordering_index (ord (get_or (flatten s) i d)))
              (is_Greater _ (above d)) (up (start s (k + 1)) i d (omega (arith, next_start)) to))
        ]
      ]

      pub gap_among : IsPartitionPoint (λ y. ord y ≡ Less) (λ y. ord y ≡ Greater) (flatten s) (start s k + j)
      gap_among = (less_below, greater_above)
