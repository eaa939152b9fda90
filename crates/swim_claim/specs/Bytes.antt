-- Lists of bytes.
use Rattle.std.specs.Prelude.{ℕ, ◌<◌, List, All}

-- each number of the list is a byte
abbrev pub AreBytes : List ℕ → Type 0
AreBytes numbers = All (λ b. b < 256) numbers
