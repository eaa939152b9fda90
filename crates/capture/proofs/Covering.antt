-- Which segments cover a place, and which place comes next.
use Rattle.std.proofs.Common.{◌≡◌, ℕ, ◌<◌, ◌≤◌, ◌⊎◌, inl, inr, Bool, true, false, nat_lt, List, [], ◌∷◌, refl, sym, arith}
use Rattle.std.specs.Prelude.{Some, None, find, fold, filter}
use Rattle.std.proofs.lemmas.Bool.{ltb-true, ltb-false, lt-ltb, le-ltb}
use Rattle.capture.specs.Flows.{Placed, end_of, covers, closer}

-- a test is true or false
pub which : (b : Bool) → (b ≡ true) ⊎ (b ≡ false)
which true = inl refl
which false = inr refl

-- `a < b`, with its test, or not
pub lt_tells : (a b : ℕ) → ((nat_lt a b ≡ true) × (a < b)) ⊎ ((nat_lt a b ≡ false) × (b ≤ a))
lt_tells a b =
    elim (which (nat_lt a b)) [ inl is ↦ inl (is, ltb-true a b is) | inr isnt ↦ inr (isnt, ltb-false a b isnt) ]

-- less than a lesser number
≤_through : {a b c : ℕ} → a ≤ b → b ≤ c → a ≤ c
≤_through low high = omega (arith, low, high)

<_through : {a b c : ℕ} → a < b → b ≤ c → a < c
<_through low high = omega (arith, low, high)

pub covers_yes : (k : ℕ) (s : Placed) → s.at ≤ k → k < end_of s → covers k s ≡ true
covers_yes k s low high = rw (le-ltb k s.at low, lt-ltb k (end_of s) high) refl

pub covers_below : (k : ℕ) (s : Placed) → k < s.at → covers k s ≡ false
covers_below k s low = rw (lt-ltb k s.at low) refl

pub covers_behind : (k : ℕ) (s : Placed) → end_of s ≤ k → covers k s ≡ false
covers_behind k s high =
    elim (lt_tells k s.at) [ inl p ↦ rw p.0 refl | inr p ↦ rw (p.0, le-ltb k (end_of s) high) refl ]

pub covers_low : (k : ℕ) (s : Placed) → covers k s ≡ true → s.at ≤ k
covers_low k s is =
    elim (lt_tells k s.at) [ inl p ↦ (let wrong : false ≡ true = rw p.0 at is in cc) | inr p ↦ p.1 ]

pub covers_high : (k : ℕ) (s : Placed) → covers k s ≡ true → k < end_of s
covers_high k s is =
    elim (lt_tells k s.at) [
      | inl p ↦ (let wrong : false ≡ true = rw p.0 at is in cc)
      | inr p ↦ (let inside : nat_lt k (end_of s) ≡ true = rw p.0 at is in ltb-true k (end_of s) inside)
    ]

pub covers_not : (k : ℕ) (s : Placed) → covers k s ≡ false → s.at ≤ k → end_of s ≤ k
covers_not k s isnt low =
    let begun : nat_lt k s.at ≡ false = le-ltb k s.at low in
    let over : nat_lt k (end_of s) ≡ false = rw begun at isnt in
    ltb-false k (end_of s) over

-- what does not cover a place covers none after it until it starts
pub covers_later : (here k : ℕ) (s : Placed) → here ≤ k → covers here s ≡ false → (here < s.at → k < s.at)
    → covers k s ≡ false
covers_later here k s low isnt near =
    elim (lt_tells here s.at) [
      | inl p ↦ covers_below k s (near p.1)
      | inr p ↦ (let over : end_of s ≤ here = covers_not here s isnt p.1 in covers_behind k s (omega arith))
    ]

pub closer_le : (here stop : ℕ) (s : Placed) → closer here stop s ≤ stop
closer_le here stop s =
    elim (lt_tells here s.at) [ inl p ↦ rw p.0 (omega arith) | inr p ↦ rw p.0 (omega arith) ]

pub closer_at : (here stop : ℕ) (s : Placed) → here < s.at → closer here stop s ≤ s.at
closer_at here stop s above = rw (lt-ltb here s.at above) (omega arith)

pub closer_above : (here stop : ℕ) (s : Placed) → here < stop → here < closer here stop s
closer_above here stop s above =
    elim (lt_tells here s.at) [
      | inl p ↦ (let more : here < s.at = p.1 in rw p.0 (omega arith))
      | inr p ↦ rw p.0 above
    ]

pub stop_le : (here : ℕ) (segments : List Placed) (stop : ℕ) → fold (closer here) stop segments ≤ stop
stop_le here [] stop = omega arith
stop_le here (s ∷ rest) stop =
    let all : fold (closer here) (closer here stop s) rest ≤ closer here stop s = stop_le here rest (closer here stop s) in
    let one : closer here stop s ≤ stop = closer_le here stop s in
    ≤_through all one

pub stop_above : (here : ℕ) (segments : List Placed) (stop : ℕ) → here < stop → here < fold (closer here) stop segments
stop_above here [] stop above = above
stop_above here (s ∷ rest) stop above = stop_above here rest (closer here stop s) (closer_above here stop s above)

-- up to the next start the same segment is the first that covers a place, or none is
pub find_none : (here k : ℕ) (segments : List Placed) (stop : ℕ) → here ≤ k → k < fold (closer here) stop segments
    → find (covers here) segments ≡ None → find (covers k) segments ≡ None
find_none here k [] stop low near none = refl
find_none here k (s ∷ rest) stop low near none =
    elim (which (covers here s)) [
      | inl is ↦ (let wrong : Some s ≡ None = rw is at none in cc)
      | inr isnt ↦
          (let others : find (covers here) rest ≡ None = rw isnt at none in
          let less : k < closer here stop s = <_through near (stop_le here rest (closer here stop s)) in
          let out : covers k s ≡ false = covers_later here k s low isnt (λ above. <_through less (closer_at here stop s above)) in
          rw out (find_none here k rest (closer here stop s) low near others))
    ]

pub find_stays : (here k : ℕ) (segments : List Placed) (stop : ℕ) (p : Placed) → here ≤ k
    → k < fold (closer here) stop segments → find (covers here) segments ≡ Some p → k < end_of p
    → find (covers k) segments ≡ Some p
find_stays here k [] stop p low near found inside = (let wrong : None ≡ Some p = found in cc)
find_stays here k (s ∷ rest) stop p low near found inside =
    elim (which (covers here s)) [
      | inl is ↦
          (let same : Some s ≡ Some p = rw is at found in
          let it : s ≡ p = cc in
          let begun : s.at ≤ here = covers_low here s is in
          let within : k < end_of s = rw it inside in
          let on : covers k s ≡ true = covers_yes k s (omega arith) within in
          rw on same)
      | inr isnt ↦
          (let others : find (covers here) rest ≡ Some p = rw isnt at found in
          let less : k < closer here stop s = <_through near (stop_le here rest (closer here stop s)) in
          let out : covers k s ≡ false = covers_later here k s low isnt (λ above. <_through less (closer_at here stop s above)) in
          rw out (find_stays here k rest (closer here stop s) p low near others inside))
    ]

-- what is found covers the place
pub found_covers : (k : ℕ) (segments : List Placed) (p : Placed) → find (covers k) segments ≡ Some p → covers k p ≡ true
found_covers k [] p found = (let wrong : None ≡ Some p = found in cc)
found_covers k (s ∷ rest) p found =
    elim (which (covers k s)) [
      | inl is ↦
          (let same : Some s ≡ Some p = rw is at found in
          let it : s ≡ p = cc in
          rw (sym it) is)
      | inr isnt ↦ (let others : find (covers k) rest ≡ Some p = rw isnt at found in found_covers k rest p others)
    ]

-- the segments that start before a gap give no byte after it
pub find_filtered : (here k : ℕ) (segments : List Placed) → here ≤ k → find (covers here) segments ≡ None
    → find (covers k) (filter (λ s. nat_lt here s.at) segments) ≡ find (covers k) segments
find_filtered here k [] low none = refl
find_filtered here k (s ∷ rest) low none =
    elim (which (covers here s)) [
      | inl is ↦ (let wrong : Some s ≡ None = rw is at none in cc)
      | inr isnt ↦
          (let others : find (covers here) rest ≡ None = rw isnt at none in
          let same = find_filtered here k rest low others in
          elim (lt_tells here s.at) [
            | inl p ↦ rw (p.0, same) refl
            | inr p ↦
                (let over : end_of s ≤ here = covers_not here s isnt p.1 in
                let out : covers k s ≡ false = covers_behind k s (omega arith) in
                rw (p.0, out) same)
          ])
    ]
