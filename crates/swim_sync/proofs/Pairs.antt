-- Pairs of nodes that are known to have one table, as nodes change and exchange.
use Rattle.std.proofs.Common.{◌≡◌, ◌≢◌, ◌⊎◌, ℕ, ◌<◌, Some, List, [], set, replicate, sym, ap, subst, ◌∙◌, inl, inr, arith}
use Rattle.std.specs.Prelude.{slice_get}
use Rattle.std.proofs.lemmas.List.{get_or-replicate, length-replicate}
use Rattle.std.proofs.lemmas.Option.{slice_get_within, get_or_from_slice_get}
use Rattle.swim_table.specs.Node.{NodeValue}
use Rattle.swim_sync.specs.Alike.{IsPair, AreAlike, HaveOneTable, AreBelow, Forgets, IsOneOf, PairsOnly}
use Rattle.swim_sync.proofs.Nodes.{replaced}

-- ---- marks

pub no_marks : AreBelow [] 1
no_marks = record { some = omega arith; each = λ i mark is. absurd cc }

zero_at : (n i mark : ℕ) → slice_get (replicate n 0) i ≡ Some mark → mark ≡ 0
zero_at n i mark is =
    let within = slice_get_within (replicate n 0) i mark is in
    let long = length-replicate {A = ℕ} n 0 in
    sym (get_or_from_slice_get (replicate n 0) i mark mark is) ∙ get_or-replicate n i 0 mark (omega (arith, within, long))

-- no mark is above 0 at first
pub reached : (old new : List ℕ) (n : ℕ) → (new ≡ old) ⊎ (new ≡ replicate n 0) → (a b : ℕ) → IsPair new a b → IsPair old a b
reached old new n (inl same) a b pair = subst (λ m. IsPair m a b) same pair
reached old new n (inr fresh) a b pair =
    let none = zero_at n a pair.0 (subst (λ m. slice_get m a ≡ Some pair.0) fresh pair.2) in absurd (omega (arith, pair.1, none))

pub reached_below : (old new : List ℕ) (n next : ℕ) → (new ≡ old) ⊎ (new ≡ replicate n 0) → AreBelow old next → AreBelow new next
reached_below old new n next (inl same) below = subst (λ m. AreBelow m next) (sym same) below
reached_below old new n next (inr fresh) below = record {
  some = below.some;
  each =
      λ i mark is.
      (let none = zero_at n i mark (subst (λ m. slice_get m i ≡ Some mark) fresh is) in let some = below.some in omega (arith, none, some));
}

pub put_below : (marks : List ℕ) (next k mark : ℕ) → AreBelow marks next → mark < next → AreBelow (set marks k mark) next
put_below marks next k mark below less = record {
  some = below.some;
  each =
      λ i other is.
      elim (replaced marks k i mark other is) [
        | inl here ↦ (let same = here.1
            in omega (arith, same, less))
        | inr there ↦ below.each i other there.1
      ];
}

pub raised_below : (marks : List ℕ) (next above : ℕ) → AreBelow marks next → next < above → AreBelow marks above
raised_below marks next above below less = record {
  some = omega (arith, less);
  each = λ i mark is. (let under = below.each i mark is in omega (arith, under, less));
}

pub forgotten : (marks : List ℕ) (k : ℕ) → Forgets marks (set marks k 0) k
forgotten marks k a b pair = elim (replaced marks k a 0 pair.0 pair.2) [
  | inl here ↦ (let same = here.1 in absurd (omega (arith, pair.1, same)))
  | inr there ↦ elim (replaced marks k b 0 pair.0 pair.3) [
    | inl here ↦ (let same = here.1 in absurd (omega (arith, pair.1, same)))
    | inr other ↦ (there.0, other.0, (pair.0, pair.1, there.1, other.1))
  ]
]

-- where a mark is after two were put
where_is : (marks : List ℕ) (j k new a mark : ℕ) → slice_get (set (set marks j new) k new) a ≡ Some mark
    → (IsOneOf a j k × (mark ≡ new)) ⊎ ((¬ IsOneOf a j k) × (slice_get marks a ≡ Some mark))
where_is marks j k new a mark is = elim (replaced (set marks j new) k a new mark is) [
  | inl at ↦ inl (inr at.0, at.1)
  | inr other ↦ elim (replaced marks j a new mark other.1) [
    | inl at ↦ inl (inl at.0, at.1)
    | inr neither ↦ inr (λ one. elim one [ inl first ↦ neither.0 first | inr second ↦ other.0 second ], neither.1)
  ]
]

pub paired : (old marks : List ℕ) (next j k : ℕ) → ((a b : ℕ) → IsPair marks a b → IsPair old a b) → AreBelow marks next
    → PairsOnly old (set (set marks j next) k next) j k
paired old marks next j k kept below a b pair = elim (where_is marks j k next a pair.0 pair.2) [
  | inl one ↦ elim (where_is marks j k next b pair.0 pair.3) [
    | inl two ↦ inl (one.0, two.0)
    | inr two ↦ (let under = below.each b pair.0 two.1 in let same = one.1 in absurd (omega (arith, under, same)))
  ]
  | inr one ↦ elim (where_is marks j k next b pair.0 pair.3) [
    | inl two ↦ (let under = below.each a pair.0 one.1 in let same = two.1 in absurd (omega (arith, under, same)))
    | inr two ↦ inr (one.0, two.0, kept a b (pair.0, pair.1, one.1, two.1))
  ]
]

-- without a further mark neither is paired
pub unpaired : (old marks : List ℕ) (j k : ℕ) → ((a b : ℕ) → IsPair marks a b → IsPair old a b)
    → PairsOnly old (set (set marks j 0) k 0) j k
unpaired old marks j k kept a b pair = elim (where_is marks j k 0 a pair.0 pair.2) [
  | inl one ↦ (let same = one.1 in absurd (omega (arith, pair.1, same)))
  | inr one ↦ elim (where_is marks j k 0 b pair.0 pair.3) [
    | inl two ↦ (let same = two.1 in absurd (omega (arith, pair.1, same)))
    | inr two ↦ inr (one.0, two.0, kept a b (pair.0, pair.1, one.1, two.1))
  ]
]

-- ---- nodes

pub none_alike : (nodes : List NodeValue) → AreAlike nodes []
none_alike nodes = λ a b node other pair. absurd (cc (pair.2))

-- whatever becomes of a node that is in no pair, the others are as they were
pub alike_but : (nodes : List NodeValue) (old new : List ℕ) (k : ℕ) (node : NodeValue) → AreAlike nodes old
    → Forgets old new k → AreAlike (set nodes k node) new
alike_but nodes old new k node alike forgets a b one other pair first second =
    let apart = forgets a b pair in
    alike a b one other apart.2 (stays a one apart.0 first) (stays b other apart.1 second)
  where
    stays : (i : ℕ) (x : NodeValue) → i ≢ k → slice_get (set nodes k node) i ≡ Some x → slice_get nodes i ≡ Some x
    stays i x away is = elim (replaced nodes k i node x is) [ inl here ↦ absurd (away here.0) | inr there ↦ there.1 ]

pub alike_still : (nodes : List NodeValue) (old new : List ℕ) (k : ℕ) → AreAlike nodes old → Forgets old new k → AreAlike nodes new
alike_still nodes old new k alike forgets a b one other pair = alike a b one other (forgets a b pair).2

-- two nodes that have one table now are paired
pub alike_two : (nodes : List NodeValue) (old new : List ℕ) (j k : ℕ) (one other : NodeValue) → AreAlike nodes old → PairsOnly old new j k
    → HaveOneTable (set (set nodes j one) k other) j k → AreAlike (set (set nodes j one) k other) new
alike_two nodes old new j k one other alike only same a b x y pair first second = elim (only a b pair) [
  | inl two ↦ both a b x y two.0 two.1 first second
  | inr apart ↦ alike a b x y apart.2 (stays a x apart.0 first) (stays b y apart.1 second)
]
  where
    stays : (i : ℕ) (x : NodeValue) → ¬ IsOneOf i j k → slice_get (set (set nodes j one) k other) i ≡ Some x → slice_get nodes i ≡ Some x
    stays i x away is = elim (replaced (set nodes j one) k i other x is) [
      | inl here ↦ absurd (away (inr here.0))
      | inr there ↦ elim (replaced nodes j i one x there.1) [ inl here ↦ absurd (away (inl here.0)) | inr still ↦ still.1 ]
    ]

    only_at : (i : ℕ) (x y : NodeValue) → slice_get (set (set nodes j one) k other) i ≡ Some x
        → slice_get (set (set nodes j one) k other) i ≡ Some y → x ≡ y
    only_at i x y is at = cc

    both : (a b : ℕ) (x y : NodeValue) → IsOneOf a j k → IsOneOf b j k → slice_get (set (set nodes j one) k other) a ≡ Some x
        → slice_get (set (set nodes j one) k other) b ≡ Some y → x.table ≡ y.table
    both a b x y (inl p) (inl q) first second =
        ap (λ (n : NodeValue). n.table) (only_at j x y (subst (λ i. slice_get (set (set nodes j one) k other) i ≡ Some x) p first)
        (subst (λ i. slice_get (set (set nodes j one) k other) i ≡ Some y) q second))
    both a b x y (inl p) (inr q) first second =
        same x y (subst (λ i. slice_get (set (set nodes j one) k other) i ≡ Some x) p first)
        (subst (λ i. slice_get (set (set nodes j one) k other) i ≡ Some y) q second)
    both a b x y (inr p) (inl q) first second =
        sym (same y x (subst (λ i. slice_get (set (set nodes j one) k other) i ≡ Some y) q second)
        (subst (λ i. slice_get (set (set nodes j one) k other) i ≡ Some x) p first))
    both a b x y (inr p) (inr q) first second =
        ap (λ (n : NodeValue). n.table) (only_at k x y (subst (λ i. slice_get (set (set nodes j one) k other) i ≡ Some x) p first)
        (subst (λ i. slice_get (set (set nodes j one) k other) i ≡ Some y) q second))
