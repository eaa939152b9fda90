-- Segments that wait in order: what covers a place, where the next one starts, and how another one is put among them.
use Rattle.std.proofs.Common.{◌≡◌, ℕ, zero, suc, ◌+◌, ◌-◌, ◌<◌, ◌≤◌, ◌⊎◌, inl, inr, Bool, true, false, nat_lt, min}
use Rattle.std.proofs.Common.{if◌then◌else◌, List, [], ◌∷◌, ◌++◌, length, take, drop, get_or, refl, sym, ◌∙◌, ap, arith}
use Rattle.std.proofs.Math.Path.{subst}
use Rattle.std.specs.Prelude.{Some, None, find, fold, filter}
use Rattle.std.specs.List.{All, AllWithin}
use Rattle.std.specs.List.Sorted.{IsNonDecreasingBy}
use Rattle.std.proofs.lemmas.Bool.{lt-ltb, le-ltb}
use Rattle.std.proofs.lemmas.List.Elements.{All-nil, All-cons, All-head, All-tail, All-get_or, All-from_get_or}
use Rattle.std.proofs.lemmas.List.Elements.{All-weaker, All-take, All-drop, All-filter, All-append}
use Rattle.capture.specs.Flows.{Placed, placed, end_of, covers, closer, byte_in, byte_at, SaysFrom, InOrder, IsClean, AreCovered}
use Rattle.capture.proofs.Covering.{which, lt_tells, covers_yes, covers_below, covers_behind, covers_low, covers_high, covers_not}
use Rattle.capture.proofs.Saying.{said_append, unsaid_append, one_out}

nowhere : Placed
nowhere = placed 0 []

-- what holds from one index to another
pub all_low : (P : Placed → Type 0) (xs : List Placed) (n : ℕ) → AllWithin P xs 0 n → n ≤ length xs → All P (take n xs)
all_low P xs zero within fits = All-nil P
all_low P [] (suc n) within fits = All-nil P
all_low P (x ∷ xs) (suc n) within fits =
    All-cons P x (take n xs) (within 0 nowhere (omega arith) (omega arith))
    (all_low P xs n (λ k d low high. within (suc k) d (omega arith) (omega (arith, high))) (omega (arith, fits)))

pub all_high : (P : Placed → Type 0) (xs : List Placed) (n : ℕ) → AllWithin P xs n (length xs) → All P (drop n xs)
all_high P [] zero within = All-nil P
all_high P [] (suc n) within = All-nil P
all_high P (x ∷ xs) zero within =
    All-cons P x xs (within 0 nowhere (omega arith) (omega arith))
    (all_high P xs zero (λ k d low high. within (suc k) d (omega arith) (omega (arith, high))))
all_high P (x ∷ xs) (suc n) within =
    all_high P xs n (λ k d low high. within (suc k) d (omega (arith, low)) (omega (arith, high)))

pub all_mid : (P : Placed → Type 0) (xs : List Placed) (m n : ℕ) → All P (drop m xs) → All P (drop m (take n xs))
all_mid P xs zero n h = All-take P n xs h
all_mid P [] (suc m) zero h = All-nil P
all_mid P [] (suc m) (suc n) h = All-nil P
all_mid P (x ∷ xs) (suc m) zero h = All-nil P
all_mid P (x ∷ xs) (suc m) (suc n) h = all_mid P xs m n h

all_found : (P : Placed → Type 0) (k : ℕ) (xs : List Placed) (p : Placed) → All P xs → find (covers k) xs ≡ Some p → P p
all_found P k [] p h found = absurd (cc (found))
all_found P k (x ∷ xs) p h found =
    elim (which (covers k x)) [
      | inl is ↦ (let same : Some x ≡ Some p = rw is at found in let it : x ≡ p = cc in subst P it (All-head P x xs h))
      | inr isnt ↦ all_found P k xs p (All-tail P x xs h) (rw isnt at found)
    ]

-- each segment ends before those after it start
abbrev pub Follows : List Placed → Type 0
Follows [] = Unit {0}
Follows (s ∷ rest) = All (λ t. end_of s ≤ t.at) rest × Follows rest

pub follows : (xs : List Placed) → InOrder xs → Follows xs
follows [] up = tt
follows (x ∷ xs) up = (
  All-from_get_or (λ t. end_of x ≤ t.at) xs nowhere (λ i less. up 0 (suc i) nowhere (omega arith) (omega (arith, less))),
  follows xs (λ i j d le less. up (suc i) (suc j) d (omega (arith, le)) (omega (arith, less))),
)

pub in_order : (xs : List Placed) → Follows xs → InOrder xs
in_order [] up i j d le less = absurd (omega (arith, less))
in_order (x ∷ xs) up zero zero d le less = absurd (omega (arith, le))
in_order (x ∷ xs) up zero (suc j) d le less = All-get_or (λ t. end_of x ≤ t.at) xs j d (omega (arith, less)) up.0
in_order (x ∷ xs) up (suc i) zero d le less = absurd (omega (arith, le))
in_order (x ∷ xs) up (suc i) (suc j) d le less = in_order xs up.1 i j d (omega (arith, le)) (omega (arith, less))

-- the starts ascend
pub starts_rise : (xs : List Placed) → Follows xs → IsNonDecreasingBy (λ s. s.at) xs
starts_rise [] up i j d le less = absurd (omega (arith, less))
starts_rise (x ∷ xs) up zero zero d le less = omega arith
starts_rise (x ∷ xs) up zero (suc j) d le less =
    let far = All-get_or (λ t. end_of x ≤ t.at) xs j d (omega (arith, less)) up.0 in omega (arith, far)
starts_rise (x ∷ xs) up (suc i) zero d le less = absurd (omega (arith, le))
starts_rise (x ∷ xs) up (suc i) (suc j) d le less = starts_rise xs up.1 i j d (omega (arith, le)) (omega (arith, less))

pub order_take : (n : ℕ) (xs : List Placed) → Follows xs → Follows (take n xs)
order_take zero xs up = tt
order_take (suc n) [] up = tt
order_take (suc n) (x ∷ xs) up = (All-take (λ t. end_of x ≤ t.at) n xs up.0, order_take n xs up.1)

pub order_drop : (n : ℕ) (xs : List Placed) → Follows xs → Follows (drop n xs)
order_drop zero xs up = up
order_drop (suc n) [] up = tt
order_drop (suc n) (x ∷ xs) up = order_drop n xs up.1

pub order_filter : (p : Placed → Bool) (xs : List Placed) → Follows xs → Follows (filter p xs)
order_filter p [] up = tt
order_filter p (x ∷ xs) up =
    elim (which (p x)) [
      | inl is ↦ rw is (All-filter p (λ t. end_of x ≤ t.at) xs up.0, order_filter p xs up.1)
      | inr isnt ↦ rw isnt (order_filter p xs up.1)
    ]

-- a piece between those that end before it and those that start after it
pub order_put : (xs ys : List Placed) (m : Placed) → Follows xs → Follows ys → All (λ s. end_of s ≤ m.at) xs
    → All (λ t. end_of m ≤ t.at) ys → Follows (xs ++ m ∷ ys)
order_put [] ys m up vp low high = (high, vp)
order_put (x ∷ xs) ys m up vp low high =
    let P : Placed → Type 0 = λ t. end_of x ≤ t.at in
    let near : end_of x ≤ m.at = All-head (λ s. end_of s ≤ m.at) x xs low in
    let far : All P ys = All-weaker (λ t. end_of m ≤ t.at) P (λ t behind. omega (arith, near, behind)) ys high in (
      All-append P xs (m ∷ ys) up.0 (All-cons P m ys near far),
      order_put xs ys m up.1 vp (All-tail (λ s. end_of s ≤ m.at) x xs low) high,
    )

-- segments on one side of a place do not cover it
pub none_below : (k : ℕ) (xs : List Placed) → All (λ s. end_of s ≤ k) xs → find (covers k) xs ≡ None
none_below k [] h = refl
none_below k (x ∷ xs) h =
    rw (covers_behind k x (All-head (λ s. end_of s ≤ k) x xs h)) (none_below k xs (All-tail (λ s. end_of s ≤ k) x xs h))

pub none_above : (k : ℕ) (xs : List Placed) → All (λ s. k < s.at) xs → find (covers k) xs ≡ None
none_above k [] h = refl
none_above k (x ∷ xs) h =
    rw (covers_below k x (All-head (λ s. k < s.at) x xs h)) (none_above k xs (All-tail (λ s. k < s.at) x xs h))

-- the one that starts last up to a place covers it, or none does
pub cover_at : (xs : List Placed) (k n : ℕ) (d : Placed) → Follows xs → n < length xs
    → All (λ s. s.at < k + 1) (take (suc n) xs) → All (λ s. k + 1 ≤ s.at) (drop (suc n) xs)
    → find (covers k) xs ≡ (if covers k (get_or xs n d) then Some (get_or xs n d) else None)
cover_at [] k n d up less low high = absurd (omega (arith, less))
cover_at (x ∷ xs) k zero d up less low high =
    elim (which (covers k x)) [
      | inl is ↦ rw is refl
      | inr isnt ↦
          rw isnt (none_above k xs (All-weaker (λ s. k + 1 ≤ s.at) (λ s. k < s.at) (λ s h. omega (arith, h)) xs high))
    ]
cover_at (x ∷ xs) k (suc n) d up less low high =
    let after : end_of x ≤ (get_or xs n d).at = All-get_or (λ t. end_of x ≤ t.at) xs n d (omega (arith, less)) up.0 in
    let lows = All-tail (λ s. s.at < k + 1) x (take (suc n) xs) low in
    let near : (get_or xs n d).at < k + 1 = at_end xs n d (omega (arith, less)) lows in
    let out : covers k x ≡ false = covers_behind k x (omega (arith, after, near)) in
    rw out (cover_at xs k n d up.1 (omega (arith, less)) lows high) where
      at_end : (xs : List Placed) (n : ℕ) (d : Placed) → n < length xs → All (λ s. s.at < k + 1) (take (suc n) xs)
          → (get_or xs n d).at < k + 1
      at_end [] n d less low = absurd (omega (arith, less))
      at_end (y ∷ ys) zero d less low = All-head (λ s. s.at < k + 1) y [] low
      at_end (y ∷ ys) (suc n) d less low =
          at_end ys n d (omega (arith, less)) (All-tail (λ s. s.at < k + 1) y (take (suc n) ys) low)

pub cover_none : (xs : List Placed) (k n : ℕ) → n ≡ 0 → AllWithin (λ s. k + 1 ≤ s.at) xs n (length xs)
    → find (covers k) xs ≡ None
cover_none xs k n is high =
    let all = all_high (λ s. k + 1 ≤ s.at) xs 0 (subst (λ n. AllWithin (λ s. k + 1 ≤ s.at) xs n (length xs)) is high) in
    none_above k xs (All-weaker (λ s. k + 1 ≤ s.at) (λ s. k < s.at) (λ s h. omega (arith, h)) xs all)

cover_last : (xs : List Placed) (k n m : ℕ) (d : Placed) → InOrder xs → n ≤ length xs → n ≡ suc m
    → AllWithin (λ s. s.at < k + 1) xs 0 n → AllWithin (λ s. k + 1 ≤ s.at) xs n (length xs)
    → find (covers k) xs ≡ (if covers k (get_or xs m d) then Some (get_or xs m d) else None)
cover_last xs k n m d up fits is low high =
    let lows = subst (λ n. AllWithin (λ s. s.at < k + 1) xs 0 n) is low in
    let highs = subst (λ n. AllWithin (λ s. k + 1 ≤ s.at) xs n (length xs)) is high in
    cover_at xs k m d (follows xs up) (omega (arith, fits, is)) (all_low (λ s. s.at < k + 1) xs (suc m) lows (omega (arith, fits, is)))
    (all_high (λ s. k + 1 ≤ s.at) xs (suc m) highs)

pub cover_yes : (xs : List Placed) (k n m : ℕ) (p : Placed) → InOrder xs → n ≤ length xs → n ≡ suc m → p ≡ get_or xs m p
    → AllWithin (λ s. s.at < k + 1) xs 0 n → AllWithin (λ s. k + 1 ≤ s.at) xs n (length xs) → covers k p ≡ true
    → Some p ≡ find (covers k) xs
cover_yes xs k n m p up fits is p_is low high on =
    sym (subst (λ q. find (covers k) xs ≡ (if covers k q then Some q else None)) (sym p_is) (cover_last xs k n m p up fits is low high)
    ∙ ap (λ b. if b then Some p else None) on)

pub cover_no : (xs : List Placed) (k n m : ℕ) (p : Placed) → InOrder xs → n ≤ length xs → n ≡ suc m → p ≡ get_or xs m p
    → AllWithin (λ s. s.at < k + 1) xs 0 n → AllWithin (λ s. k + 1 ≤ s.at) xs n (length xs) → covers k p ≡ false
    → None ≡ find (covers k) xs
cover_no xs k n m p up fits is p_is low high off =
    sym (subst (λ q. find (covers k) xs ≡ (if covers k q then Some q else None)) (sym p_is) (cover_last xs k n m p up fits is low high)
    ∙ ap (λ b. if b then Some p else None) off)

-- the next start above a place is that of the first segment that starts above it
stop_stays : (k m : ℕ) (xs : List Placed) → All (λ s. m ≤ s.at) xs → fold (closer k) m xs ≡ m
stop_stays k m [] h = refl
stop_stays k m (x ∷ xs) h =
    let far : m ≤ x.at = All-head (λ s. m ≤ s.at) x xs h in
    let same : closer k m x ≡ m = elim (lt_tells k x.at) [ inl p ↦ rw p.0 (omega (arith, far)) | inr p ↦ rw p.0 refl ] in
    rw same (stop_stays k m xs (All-tail (λ s. m ≤ s.at) x xs h))

near_some : (xs : List Placed) (k n stop : ℕ) (d : Placed) → Follows xs → n < length xs → All (λ s. s.at < k + 1) (take n xs)
    → All (λ s. k + 1 ≤ s.at) (drop n xs) → fold (closer k) stop xs ≡ min (get_or xs n d).at stop
near_some [] k n stop d up less low high = absurd (omega (arith, less))
near_some (x ∷ xs) k zero stop d up less low high =
    let above : k + 1 ≤ x.at = All-head (λ s. k + 1 ≤ s.at) x xs high in
    let test : nat_lt k x.at ≡ true = lt-ltb k x.at (omega (arith, above)) in
    let later = All-weaker (λ t. end_of x ≤ t.at) (λ t. min x.at stop ≤ t.at) (λ t h. omega (arith, h)) xs up.0 in
    rw test (stop_stays k (min x.at stop) xs later)
near_some (x ∷ xs) k (suc n) stop d up less low high =
    let under : x.at < k + 1 = All-head (λ s. s.at < k + 1) x (take n xs) low in
    let test : nat_lt k x.at ≡ false = le-ltb k x.at (omega (arith, under)) in
    rw test (near_some xs k n stop d up.1 (omega (arith, less)) (All-tail (λ s. s.at < k + 1) x (take n xs) low) high)

near_none : (xs : List Placed) (k stop : ℕ) → All (λ s. s.at < k + 1) xs → fold (closer k) stop xs ≡ stop
near_none [] k stop low = refl
near_none (x ∷ xs) k stop low =
    let under : x.at < k + 1 = All-head (λ s. s.at < k + 1) x xs low in
    let test : nat_lt k x.at ≡ false = le-ltb k x.at (omega (arith, under)) in
    rw test (near_none xs k stop (All-tail (λ s. s.at < k + 1) x xs low))

pub near_next : (xs : List Placed) (k n stop : ℕ) (p : Placed) → InOrder xs → n < length xs → p ≡ get_or xs n p
    → AllWithin (λ s. s.at < k + 1) xs 0 n → AllWithin (λ s. k + 1 ≤ s.at) xs n (length xs)
    → min p.at stop ≡ fold (closer k) stop xs
near_next xs k n stop p up less is low high =
    ap (λ q. min q.at stop) is
    ∙ sym (near_some xs k n stop p (follows xs up) less (all_low (λ s. s.at < k + 1) xs n low (omega (arith, less)))
    (all_high (λ s. k + 1 ≤ s.at) xs n high))

pub near_last : (xs : List Placed) (k n stop : ℕ) → length xs ≤ n → AllWithin (λ s. s.at < k + 1) xs 0 n
    → stop ≡ fold (closer k) stop xs
near_last xs k n stop all low =
    sym (near_none xs k stop (All-from_get_or (λ s. s.at < k + 1) xs nowhere
    (λ i less. low i nowhere (omega arith) (omega (arith, less, all)))))

-- a segment among them that covers a place: one is found there
pub some_found : (j k : ℕ) (xs : List Placed) (p : Placed) → find (covers j) xs ≡ Some p → covers k p ≡ true
    → (q : Placed) × (find (covers k) xs ≡ Some q)
some_found j k [] p found on = absurd (cc (found))
some_found j k (x ∷ xs) p found on =
    elim (which (covers k x)) [
      | inl is ↦ (x, rw is refl)
      | inr isnt ↦ elim (which (covers j x)) [
        | inl it ↦
            (let same : Some x ≡ Some p = rw it at found in
            let x_is : x ≡ p = cc in
            let wrong : false ≡ true = sym isnt ∙ ap (covers k) x_is ∙ on in absurd (cc (wrong)))
        | inr other ↦
            (let rest = some_found j k xs p (rw other at found) on in (rest.0, rw isnt rest.1))
      ]
    ]

pub some_at : (k n : ℕ) (xs : List Placed) (d : Placed) → n < length xs → covers k (get_or xs n d) ≡ true
    → (q : Placed) × (find (covers k) xs ≡ Some q)
some_at k n [] d less on = absurd (omega (arith, less))
some_at k zero (x ∷ xs) d less on = (x, rw on refl)
some_at k (suc n) (x ∷ xs) d less on =
    elim (which (covers k x)) [
      | inl is ↦ (x, rw is refl)
      | inr isnt ↦ (let rest = some_at k n xs d (omega (arith, less)) on in (rest.0, rw isnt rest.1))
    ]

-- none lies on both sides of a place that none covers, of an end, and of a start
pub clean_none : (k : ℕ) (xs : List Placed) → find (covers k) xs ≡ None → IsClean k xs
clean_none k [] none = All-nil (λ s. s.at < k → end_of s ≤ k)
clean_none k (x ∷ xs) none =
    elim (which (covers k x)) [
      | inl is ↦ (let wrong : Some x ≡ None = rw is at none in absurd (cc (wrong)))
      | inr isnt ↦
          All-cons (λ s. s.at < k → end_of s ≤ k) x xs (λ low. covers_not k x isnt (omega (arith, low)))
          (clean_none k xs (rw isnt at none))
    ]

pub clean_end : (k : ℕ) (xs : List Placed) (p : Placed) → Follows xs → find (covers k) xs ≡ Some p → IsClean (end_of p) xs
clean_end k [] p up found = absurd (cc (found))
clean_end k (x ∷ xs) p up found =
    let P : Placed → Type 0 = λ s. s.at < end_of p → end_of s ≤ end_of p in
    elim (which (covers k x)) [
      | inl is ↦
          (let same : Some x ≡ Some p = rw is at found in
          let it : x ≡ p = cc in
          let last : end_of x ≡ end_of p = ap end_of it in
          All-cons P x xs (λ low. omega (arith, last))
          (All-weaker (λ t. end_of x ≤ t.at) P (λ t far low. absurd (omega (arith, far, low, last))) xs up.0))
      | inr isnt ↦
          (let rest : find (covers k) xs ≡ Some p = rw isnt at found in
          let far : end_of x ≤ p.at = all_found (λ t. end_of x ≤ t.at) k xs p up.0 rest in
          All-cons P x xs (λ low. omega (arith, far)) (clean_end k xs p up.1 rest))
    ]

pub clean_start : (n : ℕ) (xs : List Placed) (d : Placed) → Follows xs → n < length xs → IsClean (get_or xs n d).at xs
clean_start n [] d up less = absurd (omega (arith, less))
clean_start zero (x ∷ xs) d up less =
    let P : Placed → Type 0 = λ s. s.at < x.at → end_of s ≤ x.at in
    All-cons P x xs (λ low. absurd (omega (arith, low)))
    (All-weaker (λ t. end_of x ≤ t.at) P (λ t far low. absurd (omega (arith, far, low))) xs up.0)
clean_start (suc n) (x ∷ xs) d up less =
    let far : end_of x ≤ (get_or xs n d).at = All-get_or (λ t. end_of x ≤ t.at) xs n d (omega (arith, less)) up.0 in
    All-cons (λ s. s.at < (get_or xs n d).at → end_of s ≤ (get_or xs n d).at) x xs (λ low. far)
    (clean_start n xs d up.1 (omega (arith, less)))

pub clean_above : (k : ℕ) (xs : List Placed) → All (λ s. k ≤ s.at) xs → IsClean k xs
clean_above k xs high =
    All-weaker (λ s. k ≤ s.at) (λ s. s.at < k → end_of s ≤ k) (λ s far low. absurd (omega (arith, far, low))) xs high

pub clean_at : (n k : ℕ) (xs : List Placed) (d : Placed) → Follows xs → n < length xs → end_of (get_or xs n d) ≤ k
    → All (λ s. k ≤ s.at) (drop (suc n) xs) → IsClean k xs
clean_at n k [] d up less over high = absurd (omega (arith, less))
clean_at zero k (x ∷ xs) d up less over high =
    All-cons (λ s. s.at < k → end_of s ≤ k) x xs (λ low. over) (clean_above k xs high)
clean_at (suc n) k (x ∷ xs) d up less over high =
    let far : end_of x ≤ (get_or xs n d).at = All-get_or (λ t. end_of x ≤ t.at) xs n d (omega (arith, less)) up.0 in
    All-cons (λ s. s.at < k → end_of s ≤ k) x xs (λ low. omega (arith, far, over))
    (clean_at n k xs d up.1 (omega (arith, less)) over high)

pub clean_first : (xs : List Placed) (k n : ℕ) → n ≡ 0 → AllWithin (λ s. k ≤ s.at) xs n (length xs) → IsClean k xs
clean_first xs k n is high =
    clean_above k xs (all_high (λ s. k ≤ s.at) xs 0 (subst (λ n. AllWithin (λ s. k ≤ s.at) xs n (length xs)) is high))

pub clean_last : (xs : List Placed) (k n m : ℕ) (p : Placed) → InOrder xs → n ≤ length xs → n ≡ suc m → p ≡ get_or xs m p
    → AllWithin (λ s. k ≤ s.at) xs n (length xs) → end_of p ≤ k → IsClean k xs
clean_last xs k n m p up fits is p_is high over =
    clean_at m k xs p (follows xs up) (omega (arith, fits, is)) (subst (λ q. end_of q ≤ k) p_is over)
    (all_high (λ s. k ≤ s.at) xs (suc m) (subst (λ n. AllWithin (λ s. k ≤ s.at) xs n (length xs)) is high))

pub clean_begun : (xs : List Placed) (m : ℕ) (p : Placed) → InOrder xs → m < length xs → p ≡ get_or xs m p → IsClean p.at xs
clean_begun xs m p up less is =
    subst (λ q. IsClean q.at xs) (sym is) (clean_start m xs p (follows xs up) less)

pub covered_at : (xs : List Placed) (k m : ℕ) (p : Placed) → m < length xs → p ≡ get_or xs m p → covers k p ≡ true
    → (q : Placed) × (find (covers k) xs ≡ Some q)
covered_at xs k m p less is on = some_at k m xs p less (subst (λ q. covers k q ≡ true) is on)

-- pieces that do not cover a place may be taken out, or put in
find_cut : (k m n : ℕ) (xs : List Placed) → m ≤ n → All (λ s. covers k s ≡ false) (drop m (take n xs))
    → find (covers k) (take m xs ++ drop n xs) ≡ find (covers k) xs
find_cut k zero zero xs le out = refl
find_cut k zero (suc n) [] le out = refl
find_cut k zero (suc n) (x ∷ xs) le out =
    rw (All-head (λ s. covers k s ≡ false) x (take n xs) out)
    (find_cut k zero n xs (omega arith) (All-tail (λ s. covers k s ≡ false) x (take n xs) out))
find_cut k (suc m) zero xs le out = absurd (omega (arith, le))
find_cut k (suc m) (suc n) [] le out = refl
find_cut k (suc m) (suc n) (x ∷ xs) le out =
    elim (which (covers k x)) [
      | inl is ↦ rw is refl
      | inr isnt ↦ rw isnt (find_cut k m n xs (omega (arith, le)) out)
    ]

find_skip : (k : ℕ) (xs ys : List Placed) (m : Placed) → covers k m ≡ false
    → find (covers k) (xs ++ m ∷ ys) ≡ find (covers k) (xs ++ ys)
find_skip k [] ys m out = rw out refl
find_skip k (x ∷ xs) ys m out =
    elim (which (covers k x)) [ inl is ↦ rw is refl | inr isnt ↦ rw isnt (find_skip k xs ys m out) ]

find_put : (k : ℕ) (xs ys : List Placed) (m : Placed) → find (covers k) xs ≡ None → covers k m ≡ true
    → find (covers k) (xs ++ m ∷ ys) ≡ Some m
find_put k [] ys m none on = rw on refl
find_put k (x ∷ xs) ys m none on =
    elim (which (covers k x)) [
      | inl is ↦ (let wrong : Some x ≡ None = rw is at none in absurd (cc (wrong)))
      | inr isnt ↦ rw isnt (find_put k xs ys m (rw isnt at none) on)
    ]

-- what is put in the place of the pieces between two places
module _ (xs : List Placed) (seg : Placed) (here stop m n : ℕ) (found : List ℕ)
    (low : All (λ s. s.at < here) (take m xs)) (mid : All (λ s. here ≤ s.at) (drop m xs))
    (near : All (λ s. s.at < stop) (take n xs)) (high : All (λ s. stop ≤ s.at) (drop n xs))
    (clean : IsClean here xs) (clean_stop : IsClean stop xs) (le : m ≤ n) (some : here < stop)
    (count : length found ≡ stop - here) where
  abbrev pub piece : Placed
  piece = placed here found

  ends_low : All (λ s. end_of s ≤ here) (take m xs)
  ends_low = ends (take m xs) low (All-take (λ s. s.at < here → end_of s ≤ here) m xs clean) where
    ends : (ys : List Placed) → All (λ s. s.at < here) ys → IsClean here ys → All (λ s. end_of s ≤ here) ys
    ends [] l c = All-nil (λ s. end_of s ≤ here)
    ends (y ∷ ys) l c =
        All-cons (λ s. end_of s ≤ here) y ys (All-head (λ s. s.at < here → end_of s ≤ here) y ys c (All-head (λ s. s.at < here) y ys l))
        (ends ys (All-tail (λ s. s.at < here) y ys l) (All-tail (λ s. s.at < here → end_of s ≤ here) y ys c))

  pub order_held : Follows xs → Follows (take m xs ++ piece ∷ drop n xs)
  order_held up =
      order_put (take m xs) (drop n xs) piece (order_take m xs up) (order_drop n xs up) ends_low
      (All-weaker (λ s. stop ≤ s.at) (λ t. end_of piece ≤ t.at) (λ t h. omega (arith, h, count, some)) (drop n xs) high)

  between : (k : ℕ) → (k < here) ⊎ (stop ≤ k) → All (λ s. covers k s ≡ false) (drop m (take n xs))
  between k side =
      outs (drop m (take n xs)) (all_mid (λ s. here ≤ s.at) xs m n mid) (All-drop (λ s. s.at < stop) m (take n xs) near)
      (All-drop (λ s. s.at < stop → end_of s ≤ stop) m (take n xs) (All-take (λ s. s.at < stop → end_of s ≤ stop) n xs clean_stop)) where
        outs : (ys : List Placed) → All (λ s. here ≤ s.at) ys → All (λ s. s.at < stop) ys → IsClean stop ys
            → All (λ s. covers k s ≡ false) ys
        outs [] a b c = All-nil (λ s. covers k s ≡ false)
        outs (y ∷ ys) a b c =
            let from : here ≤ y.at = All-head (λ s. here ≤ s.at) y ys a in
            let until : end_of y ≤ stop = All-head (λ s. s.at < stop → end_of s ≤ stop) y ys c (All-head (λ s. s.at < stop) y ys b) in
            let out : covers k y ≡ false =
            elim side [ inl l ↦ covers_below k y (omega (arith, l, from)) | inr h ↦ covers_behind k y (omega (arith, h, until)) ] in
            All-cons (λ s. covers k s ≡ false) y ys out
            (outs ys (All-tail (λ s. here ≤ s.at) y ys a) (All-tail (λ s. s.at < stop) y ys b)
            (All-tail (λ s. s.at < stop → end_of s ≤ stop) y ys c))

  -- outside of them nothing changes
  outside : (k : ℕ) → (k < here) ⊎ (stop ≤ k) → byte_at k (take m xs ++ piece ∷ drop n xs) ≡ byte_at k xs
  outside k side =
      let out : covers k piece ≡ false =
      elim side [ inl l ↦ covers_below k piece l | inr h ↦ covers_behind k piece (omega (arith, h, count)) ] in
      ap (byte_in k) (find_skip k (take m xs) (drop n xs) piece out ∙ find_cut k m n xs le (between k side))

  pub byte_held : AreCovered seg.at here xs → AreCovered stop (end_of seg) xs
      → SaysFrom (xs ++ seg ∷ []) here found
      → (k : ℕ) → byte_at k (xs ++ seg ∷ []) ≡ byte_at k (take m xs ++ piece ∷ drop n xs)
  byte_held front back says k =
      elim (lt_tells k here) [
        | inl before ↦ apart (inl before.1) (λ on. front k (covers_low k seg on) before.1)
        | inr from ↦ elim (lt_tells k stop) [
          | inl inside ↦
              (let place : here + (k - here) ≡ k = omega (arith, from.1) in
              let less : k - here < length found = omega (arith, from.1, inside.1, count) in
              let said : byte_at (here + (k - here)) (xs ++ seg ∷ []) ≡ Some (get_or found (k - here) 0) = says (k - here) less in
              let on : covers k piece ≡ true = covers_yes k piece from.1 (omega (arith, from.1, less)) in
              let none : find (covers k) (take m xs) ≡ None =
              none_below k (take m xs) (All-weaker (λ s. end_of s ≤ here) (λ s. end_of s ≤ k)
              (λ s h. omega (arith, h, from.1)) (take m xs) ends_low) in
              let put : byte_at k (take m xs ++ piece ∷ drop n xs) ≡ Some (get_or found (k - here) 0) =
              ap (byte_in k) (find_put k (take m xs) (drop n xs) piece none on) in
              subst (λ j. byte_at j (xs ++ seg ∷ []) ≡ Some (get_or found (k - here) 0)) place said ∙ sym put)
          | inr behind ↦ apart (inr behind.1) (λ on. back k behind.1 (covers_high k seg on))
        ]
      ] where
        apart : (k < here) ⊎ (stop ≤ k) → (covers k seg ≡ true → (p : Placed) × (find (covers k) xs ≡ Some p))
            → byte_at k (xs ++ seg ∷ []) ≡ byte_at k (take m xs ++ piece ∷ drop n xs)
        apart side there =
            elim (which (covers k seg)) [
              | inl on ↦
                  (let p = there on in
                  let said : byte_at k xs ≡ Some (get_or p.0.bytes (k - p.0.at) 0) = ap (byte_in k) p.1 in
                  said_append k xs (seg ∷ []) (get_or p.0.bytes (k - p.0.at) 0) said ∙ sym said ∙ sym (outside k side))
              | inr off ↦ unsaid_append k xs (seg ∷ []) (one_out k seg off) ∙ sym (outside k side)
            ]

-- an element put in the place of others
put_items : (xs : List Placed) (x : Placed) (m n : ℕ) → m ≤ n → n ≤ length xs
    → take (suc m) (take m xs ++ x ∷ drop m xs) ++ drop (suc n) (take m xs ++ x ∷ drop m xs) ≡ take m xs ++ x ∷ drop n xs
put_items xs x zero n le fits = refl
put_items [] x (suc m) n le fits = absurd (omega (arith, le, fits))
put_items (y ∷ ys) x (suc m) zero le fits = absurd (omega (arith, le))
put_items (y ∷ ys) x (suc m) (suc n) le fits = ap (λ zs. y ∷ zs) (put_items ys x m n (omega (arith, le)) (omega (arith, fits)))

pub put_range : (xs : List Placed) (x : Placed) (m n i j : ℕ) → m ≤ n → n ≤ length xs → i ≡ suc m → j ≡ suc n
    → take i (take m xs ++ x ∷ drop m xs) ++ drop j (take m xs ++ x ∷ drop m xs) ≡ take m xs ++ x ∷ drop n xs
put_range xs x m n i j le fits i_is j_is = rw (i_is, j_is) (put_items xs x m n le fits)

-- a piece that starts before a place comes before those that start at a later one
pub index_below : (xs : List Placed) (here stop m n : ℕ) → AllWithin (λ s. s.at < here) xs 0 m
    → AllWithin (λ s. stop ≤ s.at) xs n (length xs) → m ≤ length xs → here < stop → m ≤ n
index_below xs here stop m n low high fits some =
    elim (lt_tells n m) [
      | inl p ↦
          (let less : n < m = p.1 in
          let below = low n nowhere (omega arith) less in
          let above = high n nowhere (omega arith) (omega (arith, less, fits)) in
          absurd (omega (arith, below, above, some)))
      | inr p ↦ p.1
    ]

-- a piece is put in the place of those between two places
module _ (xs : List Placed) (seg : Placed) (here stop m n : ℕ) (found : List ℕ) (up : InOrder xs)
    (low : AllWithin (λ s. s.at < here) xs 0 m) (mid : AllWithin (λ s. here ≤ s.at) xs m (length xs))
    (near : AllWithin (λ s. s.at < stop) xs 0 n) (high : AllWithin (λ s. stop ≤ s.at) xs n (length xs))
    (fits_m : m ≤ length xs) (fits_n : n ≤ length xs)
    (clean : IsClean here xs) (clean_stop : IsClean stop xs) (some : here < stop) (count : length found ≡ stop - here) where
  pub put_order : InOrder (take m xs ++ placed here found ∷ drop n xs)
  put_order =
      in_order (take m xs ++ placed here found ∷ drop n xs)
      (order_held xs seg here stop m n found (all_low (λ s. s.at < here) xs m low fits_m) (all_high (λ s. here ≤ s.at) xs m mid)
      (all_low (λ s. s.at < stop) xs n near fits_n) (all_high (λ s. stop ≤ s.at) xs n high) clean clean_stop
      (index_below xs here stop m n low high fits_m some) some count (follows xs up))

  pub put_bytes : AreCovered seg.at here xs → AreCovered stop (end_of seg) xs
      → SaysFrom (xs ++ seg ∷ []) here found
      → (k : ℕ) → byte_at k (xs ++ seg ∷ []) ≡ byte_at k (take m xs ++ placed here found ∷ drop n xs)
  put_bytes =
      byte_held xs seg here stop m n found (all_low (λ s. s.at < here) xs m low fits_m) (all_high (λ s. here ≤ s.at) xs m mid)
      (all_low (λ s. s.at < stop) xs n near fits_n) (all_high (λ s. stop ≤ s.at) xs n high) clean clean_stop
      (index_below xs here stop m n low high fits_m some) some count
