-- Messages have one list of leaves.
use Rattle.std.proofs.Common.{◌≡◌, ◌⊎◌, ℕ, ◌+◌, List, [], ◌∷◌, ◌++◌, Some, None, refl, sym, ap, subst, ◌∙◌, inl, inr}
use Rattle.memberlist_message.specs.Compounds.{PartsValue, compound_of, parts_in, truncated_in}
use Rattle.memberlist_message.specs.Leaves.{AreLeaves}
use Rattle.memberlist_message.specs.Leaves.AreLeaves.{none, leaf, opened}

record IsLeaf (m : List ℕ) (ms ls : List (List ℕ)) (n : ℕ) : Type 0 where
  pub is : compound_of m ≡ None
  pub later : List (List ℕ)
  pub leaves : ls ≡ m ∷ later
  pub rest : AreLeaves ms later n

record IsOpened (m : List ℕ) (ms ls : List (List ℕ)) (n : ℕ) : Type 0 where
  pub parts : PartsValue
  pub is : compound_of m ≡ Some parts
  pub more : ℕ
  pub truncated : n ≡ truncated_in parts.lens parts.bytes + more
  pub rest : AreLeaves (parts_in parts.lens parts.bytes ++ ms) ls more

-- how the leaves of these messages came about
abbrev Begins : List (List ℕ) → List (List ℕ) → ℕ → Type 0
Begins [] ls n = (ls ≡ []) × (n ≡ 0)
Begins (m ∷ ms) ls n = IsLeaf m ms ls n ⊎ IsOpened m ms ls n

begins : (ms ls : List (List ℕ)) (n : ℕ) → AreLeaves ms ls n → Begins ms ls n
begins _ _ _ none = (refl, refl)
begins _ _ _ (leaf m ms ls n is rest) = inl (record { is = is; later = ls; leaves = refl; rest = rest })
begins _ _ _ (opened m ms ls n parts is rest) = inr (record { parts = parts; is = is; more = n; truncated = refl; rest = rest })

pub one_answer : (ms xs ys : List (List ℕ)) (a b : ℕ) → AreLeaves ms xs a → AreLeaves ms ys b → (xs ≡ ys) × (a ≡ b)
one_answer _ _ ys _ b none h = let i = begins [] ys b h in (sym i.0, sym i.1)
one_answer _ _ ys _ b (leaf m ms ls n is rest) h = elim (begins (m ∷ ms) ys b h) [
  | inl other ↦ let same = one_answer ms ls other.later n b rest other.rest
      in (ap (λ (zs : List (List ℕ)). m ∷ zs) same.0 ∙ sym other.leaves, same.1)
  | inr other ↦ let some = other.is in absurd (cc (is, some))
]
one_answer _ _ ys _ b (opened m ms ls n parts is rest) h = elim (begins (m ∷ ms) ys b h) [
  | inl other ↦ let nothing = other.is in absurd (cc (is, nothing))
  | inr other ↦
      let some = other.is in
      let e : other.parts ≡ parts = cc (is, some) in
      let again = subst (λ (p : PartsValue). AreLeaves (parts_in p.lens p.bytes ++ ms) ys other.more) e other.rest in
      let same = one_answer (parts_in parts.lens parts.bytes ++ ms) ls ys n other.more rest again in (
        same.0,
        ap (λ (k : ℕ). truncated_in parts.lens parts.bytes + k) same.1
            ∙ (ap (λ (p : PartsValue). truncated_in p.lens p.bytes + other.more) (sym e)
            ∙ sym other.truncated),
      )
]
