-- The prefixes of two names, as numbers, are ordered as the names are.
use Rattle.std.proofs.Common.{◌≡◌, ◌≢◌, ℕ, zero, suc, ◌+◌, ◌*◌, ◌^◌, ◌<◌, ◌≤◌, ◌⊎◌, inl, inr, List, [], ◌∷◌, drop, refl}
use Rattle.std.proofs.Common.{sym, ap, ◌∙◌, arith, mul-le-mul_right, get_or-drop}
use Rattle.std.specs.Prelude.{slice_index}
use Rattle.std.specs.Ordering.{nat_cmp, ordering_then, MatchOrdering}
use Rattle.std.specs.declared.cmp.Ordering.{Ordering}
use Rattle.std.specs.declared.cmp.Ordering.TheVariants.{Less, Equal, Greater}
use Rattle.std.proofs.lemmas.Bool.{cases_lt}
use Rattle.std.proofs.lemmas.Cmp.{ranked, nat_list_cmp_total}
use Rattle.byteorder.specs.Endian.{big_from}
use Rattle.byteorder.specs.Numbers.{big_from-lt}
use Rattle.memberlist_view.specs.declared.prefix.Prefix.{Prefix}
use Rattle.memberlist_view.specs.Prefix.{eight_bytes, IsPrefixOf}
use Rattle.memberlist_view.specs.Rules.{name_cmp}
use Rattle.std.specs.Ordering.{ordering_reverse}

turned : (x y : List ℕ) (o : Ordering) → name_cmp x y ≡ o → name_cmp y x ≡ ordering_reverse o
turned x y o e = nat_list_cmp_total.antisymm y x ∙ ap ordering_reverse e

-- each number in the list is a byte
abbrev Bytes : List ℕ → Type 0
Bytes xs = (k : ℕ) → slice_index xs k < 256

-- equal bytes spell the same number
pub big_from-same : (i n : ℕ) (xs ys : List ℕ)
    → ((k : ℕ) → i ≤ k → k < i + n → slice_index xs k ≡ slice_index ys k)
    → big_from i n xs ≡ big_from i n ys
big_from-same i zero xs ys same = refl
big_from-same i (suc n) xs ys same =
    let first = same i (omega arith) (omega arith) in
    let rest = big_from-same (suc i) n xs ys (λ k low high. same k (omega (arith, low)) (omega (arith, high))) in
    (λ j. first j * 256 ^ n + rest j)

-- without the first byte
big_from-cons : (i n x : ℕ) (xs : List ℕ) → big_from (suc i) n (x ∷ xs) ≡ big_from i n xs
big_from-cons i zero x xs = refl
big_from-cons i (suc n) x xs = ap (λ t. slice_index xs i * 256 ^ n + t) (big_from-cons (suc i) n x xs)

big_from-nil : (i n : ℕ) → big_from i n [] ≡ 0
big_from-nil i zero = refl
big_from-nil i (suc n) = omega (arith, big_from-nil (suc i) n)

nil_first : (xs : List ℕ) → name_cmp [] xs ≢ Greater
nil_first [] = λ e. absurd (cc)
nil_first (x ∷ xs) = λ e. absurd (cc)

-- if two names are in order, so are their prefixes, and, after equal prefixes, the rest
rises : (n : ℕ) (xs ys : List ℕ) → Bytes xs → Bytes ys → name_cmp xs ys ≢ Greater →
    (big_from 0 n xs < big_from 0 n ys) ⊎ ((big_from 0 n xs ≡ big_from 0 n ys) × (name_cmp (drop n xs) (drop n ys) ≢ Greater))
rises zero xs ys small small' up = inr (refl, up)
rises (suc n) [] [] small small' up = inr (refl, up)
rises (suc n) [] (y ∷ ys) small small' up =
    let none = big_from-nil 0 (suc n) in
    elim (cases_lt 0 (big_from 0 (suc n) (y ∷ ys))) [
      | inl some ↦ inl (omega (arith, none, some))
      | inr zeros ↦ inr (omega (arith, none, zeros), nil_first (drop n ys))
    ]
rises (suc n) (x ∷ xs) [] small small' up = absurd (up refl)
rises (suc n) (x ∷ xs) (y ∷ ys) small small' up =
    by_answer (rises n xs ys (λ k. small (suc k)) (λ k. small' (suc k))) (nat_cmp x y) refl (ranked x y (nat_cmp x y) refl)
  where
    by_answer : (name_cmp xs ys ≢ Greater → (big_from 0 n xs < big_from 0 n ys) ⊎ ((big_from 0 n xs ≡ big_from 0 n ys)
        × (name_cmp (drop n xs) (drop n ys) ≢ Greater)))
        → (o : Ordering) → nat_cmp x y ≡ o → MatchOrdering o (x < y) (x ≡ y) (y < x)
        → (big_from 0 (suc n) (x ∷ xs) < big_from 0 (suc n) (y ∷ ys))
        ⊎ ((big_from 0 (suc n) (x ∷ xs) ≡ big_from 0 (suc n) (y ∷ ys)) × (name_cmp (drop n xs) (drop n ys) ≢ Greater))
    by_answer later Less e below =
        let under : x < y = below in
        let fits = big_from-lt 1 n (x ∷ xs) small in
        let more : (x + 1) * 256 ^ n ≤ y * 256 ^ n = mul-le-mul_right (256 ^ n) (omega arith) in
        inl (omega (arith, fits, more))
    by_answer later Equal e same =
        let level : x ≡ y = same in
        let front = big_from-cons 0 n x xs in
        let front' = big_from-cons 0 n y ys in
        let top : x * 256 ^ n ≡ y * 256 ^ n = ap (λ z. z * 256 ^ n) level in
        elim (later (λ g. up (ap (λ o. ordering_then o (name_cmp xs ys)) e ∙ g))) [
          | inl less ↦ inl (omega (arith, front, front', top, less))
          | inr alike ↦ inr (omega (arith, front, front', top, alike.0), alike.1)
        ]
    by_answer later Greater e above = absurd (up (ap (λ o. ordering_then o (name_cmp xs ys)) e))

-- the first prefix is below the second
abbrev IsBelow : Prefix → Prefix → Type 0
IsBelow p q = (p.high < q.high) ⊎ ((p.high ≡ q.high) × (p.low < q.low))

not_above : (p q : Prefix) (xs ys : List ℕ) → IsPrefixOf p xs → IsPrefixOf q ys → name_cmp xs ys ≢ Greater → ¬ IsBelow q p
unfolding eight_bytes
not_above p q xs ys h g up = λ below. elim (rises 8 xs ys h.bytes g.bytes up) [
  | inl less ↦ elim below [
    | inl over ↦ omega (arith, less, over, h.high, g.high)
    | inr over ↦ omega (arith, less, over.0, h.high, g.high)
  ]
  | inr alike ↦ elim below [
    | inl over ↦ omega (arith, alike.0, over, h.high, g.high)
    | inr over ↦ elim (rises 8 (drop 8 xs) (drop 8 ys) (λ k. rw get_or-drop (h.bytes (8 + k)))
        (λ k. rw get_or-drop (g.bytes (8 + k))) alike.1) [
          | inl less ↦ omega (arith, less, over.1, h.low, g.low)
          | inr same ↦ omega (arith, same.0, over.1, h.low, g.low)
        ]
  ]
]

below_less : (p q : Prefix) (xs ys : List ℕ) → IsPrefixOf p xs → IsPrefixOf q ys → IsBelow p q → name_cmp xs ys ≡ Less
below_less p q xs ys h g below = by_answer (name_cmp ys xs) refl
  where
    by_answer : (o : Ordering) → name_cmp ys xs ≡ o → name_cmp xs ys ≡ Less
    by_answer Less e = absurd (not_above q p ys xs g h (λ f. absurd (cc (sym e ∙ f))) below)
    by_answer Equal e = absurd (not_above q p ys xs g h (λ f. absurd (cc (sym e ∙ f))) below)
    by_answer Greater e = turned ys xs Greater e

-- prefixes that differ are ordered as their names are
pub ordered : (p q : Prefix) (o : Ordering) → MatchOrdering o (IsBelow p q) (Unit {0}) (IsBelow q p) → (xs ys : List ℕ) → IsPrefixOf p xs
    → IsPrefixOf q ys → o ≢ Equal → o ≡ name_cmp xs ys
ordered p q Less below xs ys h g differ = sym (below_less p q xs ys h g below)
ordered p q Equal below xs ys h g differ = absurd (differ refl)
ordered p q Greater below xs ys h g differ = sym (turned ys xs Less (below_less q p ys xs g h below))

-- by the first halves, or by the second ones if the first are equal
pub by_high : (p q : Prefix) (o : Ordering) → o ≡ nat_cmp p.high q.high → MatchOrdering o (IsBelow p q) (Unit {0}) (IsBelow q p)
by_high p q o is = by_answer o (ranked p.high q.high o is)
  where
    by_answer : (o : Ordering) → MatchOrdering o (p.high < q.high) (p.high ≡ q.high) (q.high < p.high)
        → MatchOrdering o (IsBelow p q) (Unit {0}) (IsBelow q p)
    by_answer Less below = inl below
    by_answer Equal same = tt
    by_answer Greater above = inl above

pub by_low : (p q : Prefix) (o : Ordering) → p.high ≡ q.high → o ≡ nat_cmp p.low q.low
    → MatchOrdering o (IsBelow p q) (Unit {0}) (IsBelow q p)
by_low p q o level is = by_answer o (ranked p.low q.low o is)
  where
    by_answer : (o : Ordering) → MatchOrdering o (p.low < q.low) (p.low ≡ q.low) (q.low < p.low)
        → MatchOrdering o (IsBelow p q) (Unit {0}) (IsBelow q p)
    by_answer Less below = inr (level, below)
    by_answer Equal same = tt
    by_answer Greater above = inr (sym level, above)
