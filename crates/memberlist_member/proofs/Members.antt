-- What is in a list.
use Rattle.std.proofs.Common.{◌≡◌, ℕ, zero, suc, ◌<◌, ◌⊎◌, inl, inr, Bool, true, false, cond, List, [], ◌∷◌, ◌++◌, length, map, slice_index_or, Some, refl, sym, subst, ap, arith}
use Rattle.std.proofs.lemmas.Option.{slice_get_within, get_or_from_slice_get}
use Rattle.std.proofs.lemmas.List.Elements.{All-cons, All-head, All-nil, All-tail}
use Rattle.std.specs.List.{All, Contains, filter, flat_map, slice_get}

-- x is one of the elements
abbrev pub In : {X : Type 0} → X → List X → Type 0
In x [] = ⊥
In x (y ∷ ys) = (y ≡ x) ⊎ In x ys

module _ {X : Type 0} where
  pub in_from_at : (xs : List X) (k : ℕ) (x d : X) → k < length xs → slice_index_or xs k d ≡ x → In x xs
  in_from_at [] k x d less is = absurd (omega (arith, less))
  in_from_at (y ∷ ys) zero x d less is = inl is
  in_from_at (y ∷ ys) (suc k) x d less is = inr (in_from_at ys k x d (omega (arith, less)) is)

  pub at_from_in : (xs : List X) (x d : X) → In x xs → (k : ℕ) × (k < length xs) × (slice_index_or xs k d ≡ x)
  at_from_in [] x d within = absurd within
  at_from_in (y ∷ ys) x d (inl same) = (0, (let some : 0 < length (y ∷ ys) = omega arith in some), same)
  at_from_in (y ∷ ys) x d (inr later) =
      let (k, less, is) = at_from_in ys x d later in
      (suc k, (let more : suc k < length (y ∷ ys) = omega (arith, less) in more), is)

  pub in_from_contains : (xs : List X) (x : X) → Contains xs x → In x xs
  in_from_contains xs x (k, less, is) = in_from_at xs k x x less is

  pub contains_from_in : (xs : List X) (x : X) → In x xs → Contains xs x
  contains_from_in xs x within = at_from_in xs x x within

  pub in_from_get : (xs : List X) (k : ℕ) (x : X) → slice_get xs k ≡ Some x → In x xs
  in_from_get xs k x is = in_from_at xs k x x (slice_get_within xs k x is) (get_or_from_slice_get xs k x x is)

  pub get_from_in : (xs : List X) (x : X) → In x xs → (k : ℕ) × (k < length xs) × (slice_get xs k ≡ Some x)
  get_from_in [] x within = absurd within
  get_from_in (y ∷ ys) x (inl same) = (0, (let some : 0 < length (y ∷ ys) = omega arith in some), ap Some same)
  get_from_in (y ∷ ys) x (inr later) =
      let (k, less, is) = get_from_in ys x later in
      (suc k, (let more : suc k < length (y ∷ ys) = omega (arith, less) in more), is)

  -- ---- of all

  pub of_all : (P : X → Type 0) (xs : List X) → All P xs → (x : X) → In x xs → P x
  of_all P xs all x within =
      let (k, less, is) = at_from_in xs x x within in subst P is (all k x less)

  pub all_from : (P : X → Type 0) (xs : List X) → ((x : X) → In x xs → P x) → All P xs
  all_from P xs each k d less = each (slice_index_or xs k d) (in_from_at xs k (slice_index_or xs k d) d less refl)

  -- ---- of a part

  pub in_filter : (p : X → Bool) (xs : List X) (x : X) → In x (filter p xs) → In x xs × (p x ≡ true)
  in_filter p [] x within = absurd within
  in_filter p (y ∷ ys) x within = cases (in_filter p ys x) (p y) refl within where
    cases : (In x (filter p ys) → In x ys × (p x ≡ true)) → (t : Bool) → p y ≡ t
        → In x (cond t (y ∷ filter p ys) (filter p ys)) → In x (y ∷ ys) × (p x ≡ true)
    cases later true is (inl same) = (inl same, subst (λ z. p z ≡ true) same is)
    cases later true is (inr rest) = (inr (later rest).0, (later rest).1)
    cases later false is rest = (inr (later rest).0, (later rest).1)

  pub filter_in : (p : X → Bool) (xs : List X) (x : X) → In x xs → p x ≡ true → In x (filter p xs)
  filter_in p [] x within passes = within
  filter_in p (y ∷ ys) x (inl same) passes =
      let here : p y ≡ true = subst (λ z. p z ≡ true) (sym same) passes in
      subst (λ t. In x (cond t (y ∷ filter p ys) (filter p ys))) (sym here) (inl same)
  filter_in p (y ∷ ys) x (inr later) passes = cases (filter_in p ys x later passes) (p y) refl where
    cases : In x (filter p ys) → (t : Bool) → p y ≡ t → In x (filter p (y ∷ ys))
    cases rest true is = subst (λ t. In x (cond t (y ∷ filter p ys) (filter p ys))) (sym is) (inr rest)
    cases rest false is = subst (λ t. In x (cond t (y ∷ filter p ys) (filter p ys))) (sym is) rest

  pub in_append : (xs ys : List X) (x : X) → In x (xs ++ ys) → In x xs ⊎ In x ys
  in_append [] ys x within = inr within
  in_append (y ∷ more) ys x (inl same) = inl (inl same)
  in_append (y ∷ more) ys x (inr later) = elim (in_append more ys x later) [ inl a ↦ inl (inr a) | inr b ↦ inr b ]

  pub append_in : (xs ys : List X) (x : X) → In x xs ⊎ In x ys → In x (xs ++ ys)
  append_in [] ys x (inl none) = absurd none
  append_in [] ys x (inr there) = there
  append_in (y ∷ more) ys x (inl (inl same)) = inl same
  append_in (y ∷ more) ys x (inl (inr there)) = inr (append_in more ys x (inl there))
  append_in (y ∷ more) ys x (inr there) = inr (append_in more ys x (inr there))

  pub flat_map_in : {Y : Type 0} (f : Y → List X) (ys : List Y) (y : Y) (x : X) → In y ys → In x (f y) → In x (flat_map f ys)
  flat_map_in f [] y x none within = absurd none
  flat_map_in f (z ∷ more) y x (inl same) within =
      append_in (f z) (flat_map f more) x (inl (subst (λ w. In x (f w)) (sym same) within))
  flat_map_in f (z ∷ more) y x (inr there) within = append_in (f z) (flat_map f more) x (inr (flat_map_in f more y x there within))

  pub in_flat_map : {Y : Type 0} (f : Y → List X) (ys : List Y) (x : X) → In x (flat_map f ys)
      → (y : Y) × In y ys × In x (f y)
  in_flat_map f [] x within = absurd within
  in_flat_map f (y ∷ ys) x within = cases (in_flat_map f ys x) (in_append (f y) (flat_map f ys) x within) where
    cases : (In x (flat_map f ys) → (z : _) × In z ys × In x (f z)) → In x (f y) ⊎ In x (flat_map f ys)
        → (z : _) × In z (y ∷ ys) × In x (f z)
    cases later (inl here) = (y, inl refl, here)
    cases later (inr rest) = let (z, z_in, x_in) = later rest in (z, inr z_in, x_in)

pub all_unmap : {X Y : Type 0} (f : X → Y) (P : Y → Type 0) (xs : List X) → All P (map f xs) → All (λ x. P (f x)) xs
all_unmap f P [] all = All-nil (λ x. P (f x))
all_unmap f P (x ∷ xs) all = All-cons (λ x. P (f x)) x xs (All-head P (f x) (map f xs) all)
    (all_unmap f P xs (All-tail P (f x) (map f xs) all))
