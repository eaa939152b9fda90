-- How long the parts of a claim may be, in bytes.
use Rattle.std.specs.Prelude.{ℕ}

-- a member's name
abbrev pub max_name_len : ℕ
max_name_len = 1024

-- what the member's program adds, as in memberlist
abbrev pub max_meta_len : ℕ
max_meta_len = 512
