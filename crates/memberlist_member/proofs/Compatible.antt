-- Steps over members whose versions are compared.
use Rattle.std.proofs.Common.{◌≡◌, ◌∙◌, ℕ, ◌+◌, ◌<◌, suc, length, Bool, true, false, List, [], ◌∷◌, Option, get_or, drop, ap, arith, sym}
use Rattle.std.specs.Prelude.{◌&&◌}
use Rattle.std.proofs.Math.Seq.{drop-cons}
use Rattle.memberlist_member.specs.Versions.{are_understood, is_understood, understood_by, understood_by_all}
use Rattle.memberlist_member.specs.declared.versions.Understood.{Understood}

-- what is left of a list begins with the element at this place
pub drop_at : {X : Type 0} (xs : List X) (i : ℕ) (x : X) → i < length xs → x ≡ get_or xs i x
    → drop i xs ≡ x ∷ drop (i + 1) xs
drop_at xs i x within at =
    let next : suc i ≡ i + 1 = omega arith in
    drop-cons xs i x within ∙ ap (λ y. y ∷ drop (suc i) xs) (sym at) ∙ ap (λ n. x ∷ drop n xs) next

module _ {X : Type 0} (versions : X → Option (List ℕ)) where
  -- one more member understands what it does
  pub by_one : (all u by : Understood) (xs rest : List X) (x : X) (told : Option (List ℕ))
      → all ≡ understood_by_all versions u xs → xs ≡ x ∷ rest → told ≡ versions x → by ≡ understood_by u told
      → all ≡ understood_by_all versions by rest
  unfolding understood_by_all
  by_one all u by xs rest x told is here of found =
      is ∙ ap (understood_by_all versions u) here
      ∙ ap (λ w. understood_by_all versions w rest) (ap (understood_by u) (sym of) ∙ sym found)

  -- there is nobody more
  pub by_none : (all u : Understood) (xs : List X) → all ≡ understood_by_all versions u xs → xs ≡ [] → u ≡ all
  unfolding understood_by_all
  by_none all u xs is here = sym (is ∙ ap (understood_by_all versions u) here)

  -- one that is not understood decides
  pub not_one : (all has : Bool) (u : Understood) (xs rest : List X) (x : X) (told : Option (List ℕ))
      → all ≡ are_understood versions u xs → xs ≡ x ∷ rest → told ≡ versions x → has ≡ is_understood u told → has ≡ false
      → false ≡ all
  unfolding are_understood
  not_one all has u xs rest x told is here of found lacks =
      sym (is ∙ ap (are_understood versions u) here
      ∙ ap (λ w. w && are_understood versions u rest) (ap (is_understood u) (sym of) ∙ sym found ∙ lacks))

  -- one that is leaves the others to decide
  pub also_one : (all has : Bool) (u : Understood) (xs rest : List X) (x : X) (told : Option (List ℕ))
      → all ≡ are_understood versions u xs → xs ≡ x ∷ rest → told ≡ versions x → has ≡ is_understood u told → has ≡ true
      → all ≡ are_understood versions u rest
  unfolding are_understood
  also_one all has u xs rest x told is here of found does =
      is ∙ ap (are_understood versions u) here
      ∙ ap (λ w. w && are_understood versions u rest) (ap (is_understood u) (sym of) ∙ sym found ∙ does)

  pub not_none : (all : Bool) (u : Understood) (xs : List X) → all ≡ are_understood versions u xs → xs ≡ [] → true ≡ all
  unfolding are_understood
  not_none all u xs is here = sym (is ∙ ap (are_understood versions u) here)
