-- Bytes that are compared eight at a time, as numbers.
use Rattle.std.proofs.Common.{◌≡◌, ◌≢◌, ℕ, zero, suc, ◌+◌, ◌*◌, ◌^◌, ◌<◌, ◌≤◌, List, [], ◌∷◌, drop, length, refl, sym}
use Rattle.std.proofs.Common.{ap, ◌∙◌, arith, mul-le-mul_right}
use Rattle.std.specs.Prelude.{slice_index}
use Rattle.std.specs.Cmp.{nat_cmp_is}
use Rattle.std.specs.Cmp.Lexicographic.{slice_cmp}
use Rattle.std.specs.Ordering.{nat_cmp, ordering_then, MatchOrdering}
use Rattle.std.specs.declared.cmp.Ordering.{Ordering}
use Rattle.std.specs.declared.cmp.Ordering.TheVariants.{Less, Equal, Greater}
use Rattle.std.proofs.lemmas.Cmp.{ranked}
use Rattle.byteorder.specs.Endian.{big_from}
use Rattle.byteorder.specs.Numbers.{big_from-lt}

-- each number in the list is a byte
abbrev pub Bytes : List ℕ → Type 0
Bytes xs = (k : ℕ) → slice_index xs k < 256

-- without the first byte
big_from-cons : (i n x : ℕ) (xs : List ℕ) → big_from (suc i) n (x ∷ xs) ≡ big_from i n xs
big_from-cons i zero x xs = refl
big_from-cons i (suc n) x xs = ap (λ t. slice_index xs i * 256 ^ n + t) (big_from-cons (suc i) n x xs)

-- two numbers with the same one added
raised : (a b a' b' : ℕ) → a' + b ≡ a + b' → MatchOrdering (nat_cmp a b) (a' < b') (a' ≡ b') (b' < a')
raised a b a' b' sum = by_answer (nat_cmp a b) (ranked a b (nat_cmp a b) refl)
  where
    by_answer : (o : Ordering) → MatchOrdering o (a < b) (a ≡ b) (b < a) → MatchOrdering o (a' < b') (a' ≡ b') (b' < a')
    by_answer Less below = omega (arith, sum, below)
    by_answer Equal same = omega (arith, sum, same)
    by_answer Greater above = omega (arith, sum, above)

-- the numbers of the first bytes decide, and if they are equal what is behind those
pub by_words : (n : ℕ) (xs ys : List ℕ) → Bytes xs → Bytes ys → n ≤ length xs → n ≤ length ys
    → slice_cmp nat_cmp xs ys ≡ ordering_then (nat_cmp (big_from 0 n xs) (big_from 0 n ys)) (slice_cmp nat_cmp (drop n xs) (drop n ys))
by_words zero xs ys small small' long long' = refl
by_words (suc n) [] ys small small' long long' = absurd (omega (arith, long))
by_words (suc n) (x ∷ xs) [] small small' long long' = absurd (omega (arith, long'))
by_words (suc n) (x ∷ xs) (y ∷ ys) small small' long long' =
    by_answer (by_words n xs ys (λ k. small (suc k))
    (λ k. small' (suc k)) (omega (arith, long)) (omega (arith, long'))) (nat_cmp x y) refl
    (ranked x y (nat_cmp x y) refl)
  where
    front : big_from 1 n (x ∷ xs) ≡ big_from 0 n xs
    front = big_from-cons 0 n x xs

    front' : big_from 1 n (y ∷ ys) ≡ big_from 0 n ys
    front' = big_from-cons 0 n y ys

    by_answer : slice_cmp nat_cmp xs ys ≡ ordering_then (nat_cmp (big_from 0 n xs) (big_from 0 n ys))
        (slice_cmp nat_cmp (drop n xs) (drop n ys))
        → (o : Ordering) → nat_cmp x y ≡ o → MatchOrdering o (x < y) (x ≡ y) (y < x)
        → slice_cmp nat_cmp (x ∷ xs) (y ∷ ys) ≡ ordering_then (nat_cmp (big_from 0 (suc n) (x ∷ xs)) (big_from 0 (suc n) (y ∷ ys)))
        (slice_cmp nat_cmp (drop n xs) (drop n ys))
    by_answer later Less e below =
        let fits = big_from-lt 1 n (x ∷ xs) small in
        let more : (x + 1) * 256 ^ n ≤ y * 256 ^ n = mul-le-mul_right (256 ^ n) (omega (arith, below)) in
        let less : Less ≡ nat_cmp (big_from 0 (suc n) (x ∷ xs)) (big_from 0 (suc n) (y ∷ ys)) = nat_cmp_is
        (big_from 0 (suc n) (x ∷ xs)) (big_from 0 (suc n) (y ∷ ys)) Less (omega (arith, fits, more))
        in
        rw (e, sym less) refl
    by_answer later Equal e same =
        let level : x ≡ y = same in
        let top : x * 256 ^ n ≡ y * 256 ^ n = ap (λ z. z * 256 ^ n) level in
        let whole : nat_cmp (big_from 0 (suc n) (x ∷ xs)) (big_from 0 (suc n) (y ∷ ys)) ≡ nat_cmp (big_from 0 n xs) (big_from 0 n ys) =
        sym (nat_cmp_is (big_from 0 (suc n) (x ∷ xs)) (big_from 0 (suc n) (y ∷ ys)) (nat_cmp (big_from 0 n xs) (big_from 0 n ys))
        (raised (big_from 0 n xs) (big_from 0 n ys) (big_from 0 (suc n) (x ∷ xs))
        (big_from 0 (suc n) (y ∷ ys)) (omega (arith, front, front', top)))) in
        ap (λ o. ordering_then o (slice_cmp nat_cmp xs ys)) e ∙ later ∙ ap
        (λ o. ordering_then o (slice_cmp nat_cmp (drop n xs) (drop n ys))) (sym whole)
    by_answer later Greater e above =
        let fits = big_from-lt 1 n (y ∷ ys) small' in
        let more : (y + 1) * 256 ^ n ≤ x * 256 ^ n = mul-le-mul_right (256 ^ n) (omega (arith, above)) in
        let greater : Greater ≡ nat_cmp (big_from 0 (suc n) (x ∷ xs))
        (big_from 0 (suc n) (y ∷ ys)) = nat_cmp_is (big_from 0 (suc n) (x ∷ xs))
        (big_from 0 (suc n) (y ∷ ys)) Greater (omega (arith, fits, more)) in
        rw (e, sym greater) refl

-- the first eight bytes as a number
abbrev pub word : List ℕ → ℕ
word xs = big_from 0 8 xs

pub if_unequal : (xs ys : List ℕ) → Bytes xs → Bytes ys → 8 ≤ length xs → 8 ≤ length ys → word xs ≢ word ys
    → slice_cmp nat_cmp xs ys ≡ nat_cmp (word xs) (word ys)
if_unequal xs ys small small' long long' differ =
    by_words 8 xs ys small small' long long'
    ∙ by_answer (nat_cmp (word xs) (word ys))
    (ranked (word xs) (word ys) (nat_cmp (word xs) (word ys)) refl)
  where
    by_answer : (o : Ordering) → MatchOrdering o (word xs < word ys) (word xs ≡ word ys) (word ys < word xs)
        → ordering_then o (slice_cmp nat_cmp (drop 8 xs) (drop 8 ys)) ≡ o
    by_answer Less below = refl
    by_answer Equal same = absurd (differ same)
    by_answer Greater above = refl

pub if_equal : (xs ys : List ℕ) → Bytes xs → Bytes ys → 8 ≤ length xs → 8 ≤ length ys → word xs ≡ word ys
    → slice_cmp nat_cmp xs ys ≡ slice_cmp nat_cmp (drop 8 xs) (drop 8 ys)
if_equal xs ys small small' long long' same =
    by_words 8 xs ys small small' long long'
    ∙ ap (λ o. ordering_then o (slice_cmp nat_cmp (drop 8 xs) (drop 8 ys))) (sym (nat_cmp_is (word xs) (word ys) Equal same))
