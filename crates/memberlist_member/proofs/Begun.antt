-- Each suspicion that is kept began with the configuration.
use Rattle.std.proofs.Common.{◌≡◌, ℕ, ◌*◌, ◌<◌, ◌≤◌, arith, Bool, true, false, cond, List, [], ◌∷◌, ◌++◌, subst, sym, Result, Ok, Err, OnOk, OnErr}
use Rattle.std.specs.List.{All}
use Rattle.std.specs.Prelude.{⊤, IsPermutation}
use Rattle.std.specs.declared.alloc.AllocError.{AllocError}
use Rattle.std.proofs.Math.Logic.{∥∥₁_map}
use Rattle.std.proofs.Math.Nat.{mul-le-mul_right}
use Rattle.std.proofs.lemmas.List.Elements.{All-append, All-cons, All-head, All-nil, All-tail}
use Rattle.std.proofs.lemmas.List.Sorted.{All-permutation}
use Rattle.memberlist_member.specs.Lists.{without_first}

module _ {X : Type 0} (P : X → Type 0) (test : X → Bool) where
  pub all_without : (xs : List X) → All P xs → All P (without_first test xs)
  all_without [] all = all
  all_without (x ∷ xs) all = cases (All-tail P x xs all) (all_without xs (All-tail P x xs all)) (test x) where
    cases : All P xs → All P (without_first test xs) → (t : Bool) → All P (cond t xs (x ∷ without_first test xs))
    cases rest without true = rest
    cases rest without false = All-cons P x (without_first test xs) (All-head P x xs all) without

  removed : (xs ys : List X) → All P xs → IsPermutation (without_first test xs) ys → All P ys
  removed xs ys all moved = All-permutation P (without_first test xs) ys moved (all_without xs all)

  -- one was taken out
  pub all_removed : (xs ys : List X) → IsPermutation (without_first test xs) ys → ∥ All P xs ∥₁ → ∥ All P ys ∥₁
  all_removed xs ys moved all = ∥∥₁_map all (λ each. removed xs ys each moved)

-- another one was added, if there was memory
pub all_added : {X : Type 0} (P : X → Type 0) (xs ys : List X) (x : X) (result : Result ⊤ AllocError) → P x
    → OnOk result (ys ≡ xs ++ x ∷ []) → OnErr result (ys ≡ xs) → ∥ All P xs ∥₁ → ∥ All P ys ∥₁
all_added P xs ys x (Ok done) holds more same all = ∥∥₁_map all (λ each.
    subst (All P) (sym more) (All-append P xs (x ∷ []) each (All-cons P x [] holds (All-nil P))))
all_added P xs ys x (Err error) holds more same all = ∥∥₁_map all (λ each. subst (All P) (sym same) each)

pub times_some : (m n : ℕ) → 0 < m → n ≤ m * n
times_some m n some = let more : 1 * n ≤ m * n = mul-le-mul_right n (let le : 1 ≤ m = omega (arith, some) in le) in omega (arith, more)

-- none are kept at first
pub none_begun : {X : Type 0} (P : X → Type 0) (xs : List X) → xs ≡ [] → ∥ All P xs ∥₁
none_begun P xs none = ∣ subst (All P) (sym none) (All-nil P) ∣₁
