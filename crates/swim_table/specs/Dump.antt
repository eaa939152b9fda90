-- The canonical dump of a table.
use Rattle.std.specs.Prelude.{ℕ, Bool, List, ◌++◌, length}
use Rattle.std.specs.List.{flat_map}
use Rattle.swim_claim.specs.declared.claim.Claim.{Claim}
use Rattle.swim_wire.specs.Canonical.{header_bytes, state_bytes}
use Rattle.swim_table.specs.Table.{Entries, Reduced}

-- the stream of these claims in canonical bytes: a header, and then the record of each
abbrev pub stream_bytes : List Claim → Bool → List ℕ
stream_bytes claims join =
    header_bytes (record { nodes = length claims; user_len = 0; join = join })
    ++ flat_map state_bytes claims

-- the stream of the claims that the table keeps
abbrev pub dump_bytes : Entries → Bool → List ℕ
dump_bytes table join = stream_bytes (Reduced table) join
