-- The indices of keys in the layouts: a value that was read is at the index of its key.
use Rattle.std.specs.Prelude.{ℕ}

-- ---- memberlist's alive

-- the address
abbrev pub alive_addr : ℕ
alive_addr = 0

-- the incarnation
abbrev pub alive_incarnation : ℕ
alive_incarnation = 1

-- the metadata
abbrev pub alive_meta : ℕ
alive_meta = 2

-- the name
abbrev pub alive_node : ℕ
alive_node = 3

-- the port
abbrev pub alive_port : ℕ
alive_port = 4

-- the versions
abbrev pub alive_vsn : ℕ
alive_vsn = 5

-- ---- memberlist's suspect and dead

-- who makes the accusation
abbrev pub accusation_from : ℕ
accusation_from = 0

-- the incarnation
abbrev pub accusation_incarnation : ℕ
accusation_incarnation = 1

-- the name
abbrev pub accusation_node : ℕ
accusation_node = 2

-- ---- memberlist's pushPullHeader

-- the join flag
abbrev pub header_join : ℕ
header_join = 0

-- how many records follow
abbrev pub header_nodes : ℕ
header_nodes = 1

-- how many bytes follow the records
abbrev pub header_user_state_len : ℕ
header_user_state_len = 2

-- ---- memberlist's pushNodeState

-- the address
abbrev pub state_addr : ℕ
state_addr = 0

-- the incarnation
abbrev pub state_incarnation : ℕ
state_incarnation = 1

-- the metadata
abbrev pub state_meta : ℕ
state_meta = 2

-- the name
abbrev pub state_name : ℕ
state_name = 3

-- the port
abbrev pub state_port : ℕ
state_port = 4

-- the state
abbrev pub state_state : ℕ
state_state = 5

-- the versions
abbrev pub state_vsn : ℕ
state_vsn = 6

-- ---- memberlist's compress

-- how it is compressed
abbrev pub compression_algo : ℕ
compression_algo = 0

-- the compressed bytes
abbrev pub compression_buf : ℕ
compression_buf = 1
