-- How much a stream may announce.
use Rattle.std.specs.Prelude.{ℕ}

-- records of members
abbrev pub max_nodes : ℕ
max_nodes = 131072

-- bytes of the state of the program above, after the records
abbrev pub max_user_state_len : ℕ
max_user_state_len = 20971520
