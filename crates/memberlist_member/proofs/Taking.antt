-- Taking one out of a list.
use Rattle.std.proofs.Common.{◌≡◌, ℕ, zero, suc, ◌+◌, ◌-◌, ◌<◌, ◌≤◌, Bool, true, false, cond, not, nat_lt, List, [], ◌∷◌, ◌++◌, length, get_or, set, take, Some, None, refl, sym, subst, ap, ◌∙◌, arith}
use Rattle.std.specs.List.{count_by, find, position, position_or_len, remove, swap_remove}
use Rattle.std.specs.List.Sorted.{IsPermutation}
use Rattle.std.proofs.lemmas.Bool.Decides.{nat_tests}
use Rattle.std.proofs.lemmas.List.Quantifiers.{position-Some}
use Rattle.std.proofs.lemmas.Grind.{common_steps}
use Rattle.std.proofs.lemmas.List.{take_more}
use Rattle.std.proofs.lemmas.List.Sums.{position_or_len_is, sum_by-cons}
use Rattle.std.proofs.lemmas.List.Sorted.{IsPermutation-refl, IsPermutation-cons, IsPermutation-to_front}
use Rattle.memberlist_member.specs.Lists.{with_first, without_first}

past_end : (n m : ℕ) → cond (nat_lt n m) (Some n) None ≡ None → m ≤ n
past_end n m is = grind (arith, nat_tests)

module _ {X : Type 0} where
  -- at the place of the first that passes, if one does
  pub record Found (p : X → Bool) (xs : List X) (k : ℕ) (d : X) : Type 0 where
    pub less : k < length xs
    pub found : find p xs ≡ Some (get_or xs k d)
    pub left : remove xs k ≡ without_first p xs
    pub passes : p (get_or xs k d) ≡ true
    pub changed : (f : X → X) → set xs k (f (get_or xs k d)) ≡ with_first p f xs

  found_from : (p : X → Bool) (xs : List X) (d : X) → position_or_len p xs < length xs
      → Found p xs (position_or_len p xs) d
  found_from p [] d less = absurd (omega (arith, less))
  found_from p (x ∷ xs) d less = cases (p x) refl (found_from p xs d) less where
    cases : (t : Bool) → p x ≡ t
        → (position_or_len p xs < length xs → Found p xs (position_or_len p xs) d)
        → cond (not t) (1 + position_or_len p xs) 0 < length (x ∷ xs)
        → Found p (x ∷ xs) (cond (not t) (1 + position_or_len p xs) 0) d
    cases true is rest within = record {
      less = within;
      found = subst (λ t. cond t (Some x) (find p xs) ≡ Some x) (sym is) refl;
      left = subst (λ t. xs ≡ cond t xs (x ∷ without_first p xs)) (sym is) refl;
      passes = is;
      changed = λ f. subst (λ t. f x ∷ xs ≡ cond t (f x ∷ xs) (x ∷ with_first p f xs)) (sym is) refl;
    }
    cases false is rest within =
        let below : position_or_len p xs < length xs = omega (arith, within) in
        let later = rest below in
        let more : 1 + position_or_len p xs ≡ suc (position_or_len p xs) = omega arith in
        subst (λ k. Found p (x ∷ xs) k d) (sym more) (record {
          less = (let fits : suc (position_or_len p xs) < length (x ∷ xs) = omega (arith, below) in fits);
          found = subst (λ t. cond t (Some x) (find p xs) ≡ Some (get_or xs (position_or_len p xs) d)) (sym is) later.found;
          left = subst (λ t. x ∷ remove xs (position_or_len p xs) ≡ cond t xs (x ∷ without_first p xs)) (sym is) (ap (λ ys. x ∷ ys) later.left);
          passes = later.passes;
          changed = λ f. subst (λ t. x ∷ set xs (position_or_len p xs) (f (get_or xs (position_or_len p xs) d)) ≡ cond t (f x ∷ xs) (x ∷ with_first p f xs)) (sym is)
              (ap (λ ys. x ∷ ys) (later.changed f));
        })

  pub at_place : (p : X → Bool) (xs : List X) (k : ℕ) (d : X) → position p xs ≡ Some k → Found p xs k d
  at_place p xs k d is =
      let (less, passes, below) = position-Some p xs k d is in
      let same : position_or_len p xs ≡ k = position_or_len_is p xs k d (omega (arith, less)) below (λ _. passes) in
      subst (λ n. Found p xs n d) same (found_from p xs d (subst (λ n. n < length xs) (sym same) less))

  -- none passes
  pub record Missing (p : X → Bool) (xs : List X) : Type 0 where
    pub missing : find p xs ≡ None
    pub left : without_first p xs ≡ xs
    pub same : (f : X → X) → with_first p f xs ≡ xs
    pub none : count_by p xs ≡ 0

  missing_from : (p : X → Bool) (xs : List X) → length xs ≤ position_or_len p xs → Missing p xs
  missing_from p [] most = record { missing = refl; left = refl; same = λ f. refl; none = refl }
  missing_from p (x ∷ xs) most = cases (p x) refl (missing_from p xs) most where
    cases : (t : Bool) → p x ≡ t → (length xs ≤ position_or_len p xs → Missing p xs)
        → length (x ∷ xs) ≤ cond (not t) (1 + position_or_len p xs) 0 → Missing p (x ∷ xs)
    cases true is rest past = absurd (omega (arith, past))
    cases false is rest past =
        let later = rest (omega (arith, past)) in
        record {
          missing = subst (λ t. cond t (Some x) (find p xs) ≡ None) (sym is) later.missing;
          left = subst (λ t. cond t xs (x ∷ without_first p xs) ≡ x ∷ xs) (sym is) (ap (λ ys. x ∷ ys) later.left);
          same = λ f. subst (λ t. cond t (f x ∷ xs) (x ∷ with_first p f xs) ≡ x ∷ xs) (sym is) (ap (λ ys. x ∷ ys) (later.same f));
          none = sum_by-cons (λ y. cond (p y) 1 0) x xs
              ∙ subst (λ t. cond t 1 0 + count_by p xs ≡ 0) (sym is) (omega (arith, later.none));
        }

  pub no_place : (p : X → Bool) (xs : List X) → position p xs ≡ None → Missing p xs
  no_place p xs is = missing_from p xs (past_end (position_or_len p xs) (length xs) is)

  take_whole : (n : ℕ) (xs : List X) → n ≡ length xs → take n xs ≡ xs
  take_whole n xs same = grind (arith, common_steps)

  -- the last one goes to the front, and the others move on
  last_first : (xs : List X) (x d : X) → IsPermutation xs (take (length xs) (get_or (x ∷ xs) (length xs) d ∷ xs))
  last_first [] x d = IsPermutation-refl []
  last_first (y ∷ ys) x d =
      let less : length ys < length (y ∷ ys) = omega arith in
      let long : length (y ∷ ys) ≡ suc (length ys) = omega arith in
      let last = get_or (y ∷ ys) (length ys) d in
      let whole : y ∷ ys ≡ take (length ys) (y ∷ ys) ++ last ∷ [] =
      sym (take_whole (length ys + 1) (y ∷ ys) (let e : length ys + 1 ≡ length (y ∷ ys) = omega arith in e))
      ∙ take_more (y ∷ ys) (length ys) d less in
      subst (λ n. IsPermutation (y ∷ ys) (take n (get_or (x ∷ y ∷ ys) n d ∷ y ∷ ys))) (sym long)
      (subst (λ zs. IsPermutation zs (last ∷ take (length ys) (y ∷ ys))) (sym whole)
      (IsPermutation-to_front (take (length ys) (y ∷ ys)) last))

  -- what swap_remove leaves is what remove leaves, in another order
  pub swapped : (xs : List X) (k : ℕ) (d : X) → k < length xs → IsPermutation (remove xs k) (swap_remove xs k d)
  swapped [] k d less = absurd (omega (arith, less))
  swapped (x ∷ xs) zero d less =
      let long : length (x ∷ xs) - 1 ≡ length xs = omega arith in
      subst (λ n. IsPermutation xs (take n (get_or (x ∷ xs) n d ∷ xs))) (sym long) (last_first xs x d)
  swapped (x ∷ xs) (suc k) d less =
      let within : k < length xs = omega (arith, less) in
      let long : length (x ∷ xs) - 1 ≡ suc (length xs - 1) = omega (arith, within) in
      subst (λ n. IsPermutation (x ∷ remove xs k) (take n (set (x ∷ xs) (suc k) (get_or (x ∷ xs) n d)))) (sym long)
      (IsPermutation-cons x (remove xs k) (swap_remove xs k d) (swapped xs k d within))
