-- Data in an element of a page, which cannot end it.
use Rattle.std.specs.Prelude.{ℕ, ◌≤◌, ◌≢◌}

-- printable ASCII, and not <
abbrev pub IsData : ℕ → Type 0
IsData b = (32 ≤ b) × (b ≤ 126) × (b ≢ 60)
