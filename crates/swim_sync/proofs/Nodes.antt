-- Lists of nodes in which one or two nodes are replaced.
use Rattle.std.proofs.Common.{◌≡◌, ◌≢◌, ◌⊎◌, ℕ, zero, suc, ◌-◌, ◌<◌, Some, List, [], ◌∷◌, ◌++◌, length, get_or, set}
use Rattle.std.proofs.Common.{refl, sym, ap, subst, ◌∙◌, inl, inr, arith, length-set, length-append, get_or-set_same}
use Rattle.std.proofs.Common.{get_or-set_other}
use Rattle.std.specs.Prelude.{slice_get}
use Rattle.std.proofs.lemmas.Bool.{cases_eq}
use Rattle.std.proofs.lemmas.List.{set-append_left, set-append_right, get_or_append_left, get_or-append_right}
use Rattle.std.proofs.lemmas.Option.{slice_get_within, slice_get-get_or, get_or_from_slice_get}
use Rattle.std.proofs.Math.Seq.{map-set_same}
use Rattle.swim_table.specs.Node.{NodeValue}
use Rattle.swim_sync.specs.Cluster.{member_of, members_of}

minus-itself : (n : ℕ) → n - n ≡ 0
minus-itself n = omega arith

module _ {X : Type 0} where
  -- what is at an index after the element at index k was replaced
  pub replaced : (xs : List X) (k y : ℕ) (new x : X) → slice_get (set xs k new) y ≡ Some x
      → ((y ≡ k) × (x ≡ new)) ⊎ ((y ≢ k) × (slice_get xs y ≡ Some x))
  replaced xs k y new x is =
      let within = slice_get_within (set xs k new) y x is in
      let number = length-set xs k new in
      let at = get_or_from_slice_get (set xs k new) y x x is in
      elim (cases_eq y k) [
        | inl same ↦ (let below : k < length xs = omega (arith, within, number, same) in
            inl (same, sym at ∙ ap (λ (i : ℕ). get_or (set xs k new) i x) same ∙ get_or-set_same xs k new x below))
        | inr other ↦ (let below : y < length xs = omega (arith, within, number) in
            inr (other, slice_get-get_or xs y x below ∙ ap Some (sym (get_or-set_other xs k y new x other) ∙ at)))
      ]

  -- two elements are replaced in either order
  pub set_swap : (xs : List X) (i k : ℕ) (x y : X) → i ≢ k → set (set xs i x) k y ≡ set (set xs k y) i x
  set_swap [] i k x y differ = refl
  set_swap (z ∷ zs) zero zero x y differ = absurd (differ refl)
  set_swap (z ∷ zs) zero (suc k) x y differ = refl
  set_swap (z ∷ zs) (suc i) zero x y differ = refl
  set_swap (z ∷ zs) (suc i) (suc k) x y differ = ap (λ (l : List X). z ∷ l) (set_swap zs i k x y (λ same. differ (ap suc same)))

  -- replacing one element in each of two parts
  pub in_parts : (xs front back : List X) (i k : ℕ) (x y : X) → xs ≡ front ++ back → length front ≡ k → i < k
      → set front i x ++ set back 0 y ≡ set (set xs i x) k y
  in_parts xs front back i k x y parts size below =
      let first : set (front ++ back) i x ≡ set front i x ++ back = set-append_left front back i x (omega (arith, size, below)) in
      let second : set (set front i x ++ back) k y ≡ set front i x ++ set back (k - k) y =
      set-append_right (set front i x) back k k y (length-set front i x ∙ size) (omega arith) in
      sym
      (ap (λ (l : List X). set (set l i x) k y) parts ∙ ap (λ (l : List X). set l k y) first ∙ second
      ∙ ap (λ (n : ℕ). set front i x ++ set back n y) (minus-itself k))

  -- an element of the front part
  pub at_front : (xs front back : List X) (i : ℕ) (x : X) → xs ≡ front ++ back → i < length front
      → x ≡ get_or front i x → slice_get xs i ≡ Some x
  at_front xs front back i x parts below is =
      subst (λ (l : List X). slice_get l i ≡ Some x) (sym parts)
      (slice_get-get_or (front ++ back) i x (let size = length-append front back in omega (arith, size, below))
      ∙ ap Some (get_or_append_left front back x i below ∙ sym is))

  -- the first element of the back part
  pub at_back : (xs front back : List X) (k : ℕ) (x : X) → xs ≡ front ++ back → length front ≡ k
      → k < length xs → x ≡ get_or back 0 x → slice_get xs k ≡ Some x
  at_back xs front back k x parts size below is =
      subst (λ (l : List X). slice_get l k ≡ Some x) (sym parts)
      (slice_get-get_or (front ++ back) k x (subst (λ (l : List X). k < length l) parts below)
      ∙ ap Some (get_or-append_right front back k k x size (omega arith) ∙ ap (λ (n : ℕ). get_or back n x) (minus-itself k) ∙ sym is))

  -- an element that was not replaced
  pub kept_at : (xs : List X) (k y : ℕ) (new x : X) → slice_get xs y ≡ Some x → y ≢ k → slice_get (set xs k new) y ≡ Some x
  kept_at xs k y new x is other =
      let within = slice_get_within xs y x is in
      let number = length-set xs k new in
      slice_get-get_or (set xs k new) y x (omega (arith, within, number))
      ∙ ap Some (get_or-set_other xs k y new x other ∙ get_or_from_slice_get xs y x x is)

-- a node is replaced by one of the same member
pub members_same : (nodes : List NodeValue) (k : ℕ) (node new : NodeValue) → slice_get nodes k ≡ Some node
    → member_of new ≡ member_of node → members_of (set nodes k new) ≡ members_of nodes
members_same nodes k node new at same = map-set_same member_of nodes k new node
    (same ∙ ap member_of (sym (get_or_from_slice_get nodes k node node at)))
