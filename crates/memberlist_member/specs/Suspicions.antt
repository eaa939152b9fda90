-- How long a member is suspected, in milliseconds.
use Rattle.std.specs.Prelude.{◌≡◌, ℕ, ◌+◌, ◌-◌, ◌*◌, ◌^◌, ◌≤◌, ◌<◌, ◌↔◌, min, nat_lt, if◌then◌else◌}

-- the greatest number of which this holds
abbrev pub IsGreatest : (ℕ → Type 0) → ℕ → Type 0
IsGreatest P m = P m × ((k : ℕ) → P k → k ≤ m)

-- at most most - log(c + 1) / log(k + 1) * (most - least): suspicion.go, remainingSuspicionTime
abbrev pub IsWithin : ℕ → ℕ → ℕ → ℕ → ℕ → Type 0
IsWithin k c least most r = (r ≤ most) × ((c + 1) ^ (most - least) ≤ (k + 1) ^ (most - r))

-- after c of the k confirmations wanted: the greatest such, or the least time if none is wanted
abbrev pub Lasts : ℕ → ℕ → ℕ → ℕ → ℕ → Type 0
Lasts k c least most r =
    (k ≡ 0 → r ≡ least) × (1 ≤ k → IsGreatest (IsWithin k c least most) r)

-- how many confirmations a suspicion wants, and its least and its longest time in milliseconds
pub record Span : Type 0 where
  pub wanted : ℕ
  pub least : ℕ
  pub most : ℕ

-- when one ends that began at start, in microseconds, or the last time that a u64 has
abbrev pub IsDue : Span → ℕ → ℕ → ℕ → Type 0
IsDue s accusers start due =
    (r : ℕ) × Lasts s.wanted (min s.wanted (accusers - 1)) s.least s.most r
    × (due ≡ min (start + 1000 * r) (2 ^ 64 - 1))

-- how many confirmations are wanted, none in a cluster of too few members: state.go, suspectNode
abbrev pub confirmations_wanted : ℕ → ℕ → ℕ
confirmations_wanted mult members =
    if nat_lt members (mult - 2 + 2) then 0 else mult - 2

-- this fraction tells whether (c + 1)^d ≤ (k + 1)^x, that is log(c + 1) / log(k + 1) * d ≤ x
abbrev pub IsShare : ℕ → ℕ → ℕ → ℕ → Type 0
IsShare k c part whole = (d x : ℕ) → d < 2 ^ 54
    → (((c + 1) ^ d ≤ (k + 1) ^ x) ↔ (d * part ≤ x * whole))
