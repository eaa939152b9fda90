-- Logarithms in whole numbers.
use Rattle.std.specs.Prelude.{ℕ, ◌+◌, ◌^◌, ◌≤◌, ◌<◌}

-- the decimal logarithm in thousandths, rounded down
abbrev pub IsMilliLog : ℕ → ℕ → Type 0
IsMilliLog n r = (10 ^ r ≤ n ^ 1000) × (n ^ 1000 < 10 ^ (r + 1))

-- the least number of which this holds
abbrev pub IsLeast : (ℕ → Type 0) → ℕ → Type 0
IsLeast P m = P m × ((k : ℕ) → P k → m ≤ k)
